-- Slots that are Sequences of their lists (OCL 2.4, 7.5.3; EMOF 12.4).
use Rattle.std.specs.Prelude.{◌≡◌, ◌≤◌, ℕ, Bool, not, ◌&&◌, List, length, IsTrue}
use Rattle.qvt_metamodel.specs.Metamodels.{Metamodels, shape_of, is_single}
use Rattle.qvt_store.specs.Contents.{Contents, is_slot, slot_of}
use Rattle.qvt_value.specs.Limits.{most}
use Rattle.qvt_value.specs.declared.value.Value.{Value}

abbrev pub is_sequence : Metamodels → ℕ → Bool
is_sequence m f = (shape_of m f).ordered && (not (shape_of m f).unique && not (is_single m f))

-- slot (o, f) is a Sequence of these items, within the limit
pub record IsSequenceOf (s : Contents) (o f : ℕ) (vs : List Value) : Type 0 where
  pub there : IsTrue (is_slot s o f)
  pub kind : IsTrue (is_sequence s.metas f)
  pub items : vs ≡ slot_of s o f
  pub within : length vs ≤ most
