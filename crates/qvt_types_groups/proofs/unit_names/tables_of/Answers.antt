use Rattle.std.proofs.Common.{◌∙◌, subst}
use Rattle.qvt_types_units.specs.Numbers.{group}
use Rattle.qvt_types_groups.specs.Keys.{FindsFirst}
use Rattle.qvt_types_groups.proofs.unit_names.tables_of.Goals as goal

pub returns : goal.returns
unfolding group
returns c = record {
  groups = c.in_ok-groups.ensures;
  free = c.in_ok-free.ensures;
  named = subst (FindsFirst c.in_ok-of.field-0) (c.as_slice.ensures ∙ c.in_ok-keys.ensures) c.in_ok-of.ensures;
}
