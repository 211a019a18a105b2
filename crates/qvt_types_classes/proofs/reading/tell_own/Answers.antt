use Rattle.std.proofs.Common.{◌∙◌, ◌++◌, ap, false, slice_index_or}
use Rattle.qvt_types_data.specs.declared.refusal.RefusalKind.TheVariants.{SameName}
use Rattle.qvt_types_paths.specs.Told.{told_if}
use Rattle.qvt_types_classes.specs.declared.declared.Property.{Property}
use Rattle.qvt_types_classes.proofs.Keys.{flag_is, told_next}
use Rattle.qvt_types_classes.proofs.reading.tell_own.Goals as goal

pub loop-place-preserved : goal.loop-place-preserved
loop-place-preserved c = λ names is.
    let ps = c.args.properties.now in
    let i = c.loop-place.place in
    told_next names c.loop-place.log c.tell_if.new.log _ ps i _ _ c.loop-place-test.true
    (flag_is names ps c.args.flags.now i _ c.loop-place-test.true is)
    (c.loop-place.invariant names is)
    (c.in_ok-tell_if.ensures ∙ ap (λ (p : Property). c.loop-place.log ++ told_if (slice_index_or c.args.flags.now i false) SameName p.place) c.index-properties-place.is)
