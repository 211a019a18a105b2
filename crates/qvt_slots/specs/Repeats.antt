-- Lists of values that repeat one. In the list of a unique slot the first of equal values is kept.
use Rattle.std.specs.Prelude.{ℕ, Bool, List, if◌then◌else◌, IsTrue, IsFalse}
use Rattle.qvt_repeats.specs.Repeats.{repeats_by}
use Rattle.qvt_value.specs.declared.value.Value.{Value}
use Rattle.qvt_value.specs.Kept.{is_same, firsts}
use Rattle.qvt_value.specs.Order.{order_of}
use Rattle.qvt_metas.specs.Metamodels.{Metamodels, shape_of}
use Rattle.qvt_slots.specs.Contents.{Contents, slot_of}

abbrev pub repeats : List Value → Bool
repeats vs = repeats_by (is_same order_of) vs

-- the new list of a slot: in a unique one no value stands twice
abbrev pub new_list : Metamodels → ℕ → List Value → List Value
new_list m p vs = if (shape_of m p).unique then firsts order_of vs else vs

-- no unique slot holds a value twice
pub record AreUnique (s : Contents) : Type 0 where
  pub unique : (x f : ℕ) → IsTrue (shape_of s.metas f).unique → IsFalse (repeats (slot_of s x f))
