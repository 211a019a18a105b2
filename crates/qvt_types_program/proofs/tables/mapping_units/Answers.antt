use Rattle.std.proofs.Common.{◌∙◌, ◌<◌, ◌++◌, [], ◌∷◌, length, ap, arith}
use Rattle.std.specs.Prelude.{if◌then◌else◌}
use Rattle.qvt_types_groups.specs.Numbers.{is_mapping}
use Rattle.qvt_types_groups.specs.declared.signature.Signature.{Signature}
use Rattle.qvt_types_groups.proofs.Lists.{where_next}
use Rattle.qvt_types_program.proofs.tables.mapping_units.Goals as goal

pub loop-number-preserved : goal.loop-number-preserved
loop-number-preserved c =
    where_next (λ u. is_mapping u.sort) c.signatures-signatures.result.now c.loop-number.number c.index-signatures-number.result _ c.loop-number.mappings _
    (let low : c.loop-number.number < length c.signatures-signatures.result.now = omega (arith, c.loop-number-test.true, c.count-number-end.ensures, ap length c.signatures-signatures.ensures) in low)
    c.loop-number.invariant
    (c.in_ok-add_mapping.ensures ∙ ap (λ (u : Signature). c.loop-number.mappings ++ (if is_mapping u.sort then c.loop-number.number ∷ [] else [])) c.index-signatures-number.is)
