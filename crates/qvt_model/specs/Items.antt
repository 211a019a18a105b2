-- What an object of a model holds for a feature (EMOF 12.4).
use Rattle.std.specs.Prelude.{ℕ, ◌==◌, List, [], ◌∷◌, if◌then◌else◌}
use Rattle.qvt_model.specs.declared.data.Datum.{Datum}
use Rattle.qvt_model.specs.declared.data.SlotData.{SlotData}

-- the items of feature f among the slots of an object: none where it has no slot of it
abbrev pub items_in : ℕ → List SlotData → List Datum
items_in f [] = []
items_in f (t ∷ ts) = if t.feature.0 == f then t.items else items_in f ts
