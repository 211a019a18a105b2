-- How a model is loaded: its objects are added, and then their slots are set one by one.
use Rattle.std.specs.Prelude.{⊤, ◌≡◌, ℕ, suc, Option, List, [], ◌∷◌, map, slice_index_or, slice_set}
use Rattle.qvt_value.specs.declared.value.Value.{Value}
use Rattle.qvt_metas.specs.Metamodels.{Metamodels, features_of}
use Rattle.qvt_store.specs.Contents.{Contents, Instance, no_instance, set_slot, with_new}
use Rattle.qvt_model.specs.declared.data.ObjectData.{ObjectData}
use Rattle.qvt_model.specs.declared.data.SlotData.{SlotData}
use Rattle.qvt_store.specs.Place.{IsPlaceable}
use Rattle.qvt_store.specs.Sound.{IsClassFor}
use Rattle.qvt_slots.specs.declared.extent.Extent.{Extent}
use Rattle.qvt_model.specs.IdTables.{id_in}
use Rattle.qvt_model.specs.Loaded.{value_at, id_told, all_told}

abbrev pub objects_added : Contents → ℕ → List ObjectData → Contents
objects_added s e [] = s
objects_added s e (o ∷ os) = objects_added (with_new s o.class.0 e) e os

abbrev pub CanAdd : Contents → ℕ → List ObjectData → Type 0
CanAdd s e [] = ⊤
CanAdd s e (o ∷ os) = IsClassFor s o.class.0 e × CanAdd (with_new s o.class.0 e) e os

abbrev pub put_slot : Metamodels → List Instance → ℕ → ℕ → List Value → List Instance
put_slot m obs o p vs = slice_set obs o (set_slot (features_of m (slice_index_or obs o no_instance).class) (slice_index_or obs o no_instance) p vs)

abbrev pub slot_values : ℕ → SlotData → List Value
slot_values n t = map (value_at n) t.items

-- the slots of object x set, where the first object of the model has number n
abbrev pub put_slots : Metamodels → ℕ → ℕ → List Instance → List SlotData → List Instance
put_slots m n x obs [] = obs
put_slots m n x obs (t ∷ ts) = put_slots m n x (put_slot m obs x t.feature.0 (slot_values n t)) ts

-- and those of the objects from x on
abbrev pub put_objects : Metamodels → ℕ → ℕ → List Instance → List ObjectData → List Instance
put_objects m n x obs [] = obs
put_objects m n x obs (o ∷ os) = put_objects m n (suc x) (put_slots m n x obs o.slots) os

abbrev pub with_objects : Contents → List Instance → Contents
with_objects s obs = record s { objects = obs }

-- each of them can be set when its turn comes
abbrev pub CanPutSlots : Metamodels → List Extent → ℕ → ℕ → List Instance → List SlotData → Type 0
CanPutSlots m es n x obs [] = ⊤
CanPutSlots m es n x obs (t ∷ ts) = IsPlaceable (record { metas = m; extents = es; objects = obs }) x t.feature.0 (slot_values n t) × CanPutSlots m es n x (put_slot m obs x t.feature.0 (slot_values n t)) ts

abbrev pub CanPutObjects : Metamodels → List Extent → ℕ → ℕ → List Instance → List ObjectData → Type 0
CanPutObjects m es n x obs [] = ⊤
CanPutObjects m es n x obs (o ∷ os) = CanPutSlots m es n x obs o.slots × CanPutObjects m es n (suc x) (put_slots m n x obs o.slots) os

-- On the way: what is left can be done, and then leaves what all of it leaves from the beginning.
pub record IsAdding (old now : Contents) (e : ℕ) (all rest : List ObjectData) : Type 0 where
  pub can : CanAdd now e rest
  pub same : objects_added now e rest ≡ objects_added old e all

pub record ArePutting (old now : Contents) (n x : ℕ) (all rest : List SlotData) : Type 0 where
  pub can : CanPutSlots now.metas now.extents n x now.objects rest
  pub same : with_objects now (put_slots now.metas n x now.objects rest) ≡ with_objects old (put_slots old.metas n x old.objects all)

pub record IsPutting (old now : Contents) (n x : ℕ) (all rest : List ObjectData) : Type 0 where
  pub can : CanPutObjects now.metas now.extents n x now.objects rest
  pub same : with_objects now (put_objects now.metas n x now.objects rest) ≡ with_objects old (put_objects old.metas n n old.objects all)

pub record IsTelling (old now : List (Option (List ℕ))) (n x : ℕ) (all rest : List ObjectData) : Type 0 where
  pub same : (y : ℕ) → id_told x rest y (id_in now y) ≡ id_told n all y (id_in old y)
  pub exact : all_told x rest now ≡ all_told n all old
