-- The table of ids of loaded inputs.
use Rattle.std.specs.Prelude.{◌≡◌, ℕ, List, ◌++◌, length, map, Some}
use Rattle.qvt_model.specs.declared.data.ObjectData.{ObjectData}
use Rattle.qvt_inputs.specs.Inputs.{with_input}
use Rattle.qvt_inputs.specs.declared.loaded.Loaded.{Loaded}

-- Where the table has an id for each object of the store, those of the next input come after them, in order.
abbrev pub IdsComeInOrder : Type 0
IdsComeInOrder = (l : Loaded) (e : ℕ) (os : List ObjectData) → length l.ids ≡ length l.store.objects
    → ((with_input l e os).ids ≡ l.ids ++ map (λ o. Some o.id) os) × (length (with_input l e os).ids ≡ length (with_input l e os).store.objects)
