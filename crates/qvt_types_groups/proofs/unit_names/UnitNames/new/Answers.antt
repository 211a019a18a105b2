use Rattle.std.proofs.Common.{◌∙◌, true, false, List, map, position, ap, subst, arith}
use Rattle.qvt_types_units.specs.declared.signature.Signature.{Signature}
use Rattle.qvt_types_units.specs.Numbers.{is_main}
use Rattle.qvt_types_groups.specs.Indexed.{AreCalled}
use Rattle.qvt_types_groups.specs.Keys.{FindsFirst, constructor_key}
use Rattle.qvt_types_groups.proofs.unit_names.UnitNames.new.Goals as goal

pub invariant_of-result : goal.invariant_of-result
invariant_of-result c = record {
  mappings = subst (λ (us : List Signature). AreCalled true us c.in_ok-mappings.mappings) c.as_slice.ensures c.in_ok-mappings.ensures;
  helpers = subst (λ (us : List Signature). AreCalled false us c.in_ok-helpers.helpers) c.as_slice-2.ensures c.in_ok-helpers.ensures;
  constructors = subst (FindsFirst c.in_ok-constructors.constructors) (c.as_slice-4.ensures ∙ c.in_ok-keys.ensures ∙ ap (map constructor_key) c.as_slice-3.ensures) c.in_ok-constructors.ensures;
  main = c.in_ok-main.ensures ∙ ap (position (λ (u : Signature). is_main u.sort)) c.as_slice-5.ensures;
  few = omega arith;
}
