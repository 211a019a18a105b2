use Rattle.std.proofs.Common.{◌∙◌, ◌<◌, ◌++◌, length, get_or, ap, arith}
use Rattle.qvt_types_data.specs.declared.refusal.RefusalKind.TheVariants.{SameName}
use Rattle.qvt_types_paths.specs.Told.{told_if}
use Rattle.qvt_types_lists.proofs.Told.{same_next}
use Rattle.qvt_types_lists.proofs.same.tell_same.Goals as goal

pub loop-number-preserved : goal.loop-number-preserved
loop-number-preserved c =
    same_next c.args.units.now c.loop-number.number c.index-all-number.result c.loop-number.log _ _
    (let low : c.loop-number.number < length c.args.units.now = omega (arith, c.loop-number-test.true, c.count-number-end.ensures) in low)
    (c.index-all-number.is ∙ ap (λ us. get_or us c.loop-number.number c.index-all-number.result) c.signatures-all.ensures) c.loop-number.invariant
    (c.in_ok-tell_if.ensures ∙ ap (λ b. c.loop-number.log ++ told_if b SameName c.index-all-number.result.place) c.stands_before-repeated.ensures)
