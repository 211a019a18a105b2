-- `+=` to a variable of a Sequence type that holds a Sequence (QVT 1.3, 8.2.2.11 AssignExp).
use Rattle.std.specs.Prelude.{◌≡◌, ℕ, ◌+◌, nat_lt, Bool, true, false, if◌then◌else◌, List, ◌++◌, length, slice_get, option_map, Option, Some, None}
use Rattle.std.specs.List.{list_all}
use Rattle.qvt_base.specs.declared.numbers.Place.{Place}
use Rattle.qvt_tree_types.specs.declared.words.CollKind.TheVariants as coll
use Rattle.qvt_types_data.specs.Term.{Collection, ty_view}
use Rattle.qvt_types_data.specs.declared.ty.Ty.{Ty}
use Rattle.qvt_value.specs.declared.value.Value.{Value, Coll', items-the_row-Value}
use Rattle.qvt_value.specs.declared.value.Value.TheViews.{Coll}
use Rattle.qvt_value.specs.declared.value.Kind.TheVariants.{Sequence}
use Rattle.qvt_value.specs.declared.value.Reason.TheVariants.{TooLarge}
use Rattle.qvt_value.specs.Limits.{most}
use Rattle.qvt_store.specs.Contents.{Contents}
use Rattle.qvt_run_data.specs.declared.exit.End.{End}
use Rattle.qvt_run_data.specs.declared.exit.End.TheVariants.{Fault}
use Rattle.qvt_run_data.specs.declared.fault.RunFault.TheVariants.{InvalidValue, TypeFault}
use Rattle.qvt_run_data.specs.declared.local.Local.{Local}
use Rattle.qvt_run_rules.specs.Statements.{collection_type, is_item}

-- a collection with these items behind its own
abbrev pub with_items : Value → List Value → Value
with_items (Coll' k s r) vs = Coll k (items-the_row-Value _ r ++ vs)
with_items v vs = v

abbrev pub misfit_unless : Bool → Place → Option End
misfit_unless true at = None
misfit_unless false at = Some (Fault TypeFault at)

-- whether the lists make one that is beyond the limit
abbrev pub are_beyond : List Value → List Value → Bool
are_beyond xs vs = nat_lt most (length xs + length vs)

-- what keeps items from standing behind those of a Sequence with this type of item
abbrev pub barred : Contents → Ty → List Value → List Value → Place → Option End
barred s t xs vs at =
    if list_all (is_item s t) vs then (if are_beyond xs vs then Some (Fault (InvalidValue TooLarge) at) else misfit_unless (list_all (is_item s t) xs) at)
    else Some (Fault TypeFault at)

-- a variable of a Sequence type with this type of item, which holds a Sequence of these
pub record IsSequence (l : Local) (item : Ty) (xs : List Value) : Type 0 where
  pub collection : collection_type l.asked ≡ Some (record { kind = coll.Sequence; item = item })
  pub view : option_map ty_view l.asked ≡ Some (Collection Sequence (ty_view item))
  pub value : l.value ≡ Coll Sequence xs

-- the variable at this place is one
abbrev pub IsSequenceAt : List Local → ℕ → Ty → List Value → Type 0
IsSequenceAt ls k item xs = (l : Local) × (slice_get ls k ≡ Some l) × IsSequence l item xs
