-- What conforming data are, in the terms of a store (EMOF 12.4 and 12.5).
use Rattle.std.specs.Prelude.{ℕ, ◌<◌, List, length, IsTrue, IsFalse}
use Rattle.qvt_metas.specs.Metamodels.{Metamodels, class_at, shape_of}
use Rattle.qvt_store.specs.Slots.{Slots, OppositesAgree, OneContainer, Inside}
use Rattle.qvt_store.specs.Repeats.{repeats}
use Rattle.qvt_store.specs.Assign.{exceeds_bound}
use Rattle.qvt_model.specs.declared.data.ObjectData.{ObjectData}
use Rattle.qvt_model.specs.WellFormed.{object_data_at}
use Rattle.qvt_model.specs.Loaded.{list_in}

-- the lists of the objects by their positions
abbrev pub slots_at : List ObjectData → Slots
slots_at os i f = list_in 0 (object_data_at os i) f

pub record Conforms (m : Metamodels) (os : List ObjectData) : Type 0 where
  pub concrete : (i : ℕ) → i < length os → IsFalse (class_at m (object_data_at os i).class.0).is_abstract
  pub bounds : (i f : ℕ) → IsFalse (exceeds_bound (length (slots_at os i f)) (shape_of m f).upper)
  pub unique : (i f : ℕ) → IsTrue (shape_of m f).unique → IsFalse (repeats (slots_at os i f))
  pub opposites : OppositesAgree m (slots_at os)
  pub containers : OneContainer m (slots_at os)
  pub outside_itself : (i : ℕ) → Inside m (slots_at os) i i → ⊥
