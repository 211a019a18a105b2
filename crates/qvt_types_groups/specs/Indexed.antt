-- What the tables of the units hold.
use Rattle.std.specs.Prelude.{◌≡◌, ◌<◌, ◌^◌, ℕ, Bool, true, false, List, length, map, position, Option}
use Rattle.qvt_types_units.specs.declared.signature.Signature.{Signature}
use Rattle.qvt_types_units.specs.Numbers.{group, numbers_where, is_main}
use Rattle.qvt_types_groups.specs.Lists.{numbers_under, is_listed}
use Rattle.qvt_types_groups.specs.Keys.{named_key, constructor_key, FindsFirst}
use Rattle.qvt_types_groups.specs.declared.class_table.ClassKey.{ClassKey}
use Rattle.qvt_types_groups.specs.declared.unit_names.UnitGroups.{UnitGroups}

-- of mappings, or of helpers and queries
pub record AreCalled (maps : Bool) (us : List Signature) (t : UnitGroups) : Type 0 where
  pub groups : (name : List ℕ) → numbers_under t.groups name ≡ group maps name us
  pub free : (name : List ℕ) → numbers_under t.free name ≡ numbers_where (is_listed maps false name) 0 us
  pub named : FindsFirst t.named (map (named_key maps t.groups.names) us)

pub record AreIndexed (us : List Signature) (maps others : UnitGroups) (made : List (ClassKey × ℕ)) (entry : Option ℕ) : Type 0 where
  pub mappings : AreCalled true us maps
  pub helpers : AreCalled false us others
  pub constructors : FindsFirst made (map constructor_key us)
  pub main : entry ≡ position (λ u. is_main u.sort) us
  pub few : length us < 2 ^ 32
