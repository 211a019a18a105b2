-- Which objects of a model stand in containment slots of which (EMOF 12.4).
use Rattle.std.specs.Prelude.{ℕ, List, [], ◌∷◌, ◌++◌, map, if◌then◌else◌}
use Rattle.qvt_metas.specs.Metamodels.{Metamodels, is_containment}
use Rattle.qvt_model.specs.declared.data.Datum.{Datum}
use Rattle.qvt_model.specs.declared.data.Datum.TheVariants.{Bool as BoolDatum, Int, Str, Literal, Ref}
use Rattle.qvt_model.specs.declared.data.SlotData.{SlotData}
use Rattle.qvt_model.specs.declared.data.ObjectData.{ObjectData}

-- the objects among the items, in order
abbrev pub refs_of : Datum → List ℕ
refs_of (BoolDatum b) = []
refs_of (Int z) = []
refs_of (Str s) = []
refs_of (Literal l) = []
refs_of (Ref i) = i ∷ []

abbrev pub refs : List Datum → List ℕ
refs [] = []
refs (x ∷ xs) = refs_of x ++ refs xs

abbrev pub contents_of_slot : Metamodels → SlotData → List ℕ
contents_of_slot m s = if is_containment m s.feature.0 then refs s.items else []

abbrev pub contents_of_slots : Metamodels → List SlotData → List ℕ
contents_of_slots m [] = []
contents_of_slots m (s ∷ ss) = contents_of_slot m s ++ contents_of_slots m ss

-- what stands in the containment slots of an object
abbrev pub contents_of_object : Metamodels → ObjectData → List ℕ
contents_of_object m o = contents_of_slots m o.slots

-- of each object of a model
abbrev pub contents : Metamodels → List ObjectData → List (List ℕ)
contents m os = map (contents_of_object m) os
