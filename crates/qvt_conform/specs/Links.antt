-- The references of a model by features that have an opposite: object, feature and what is referred to.
use Rattle.std.specs.Prelude.{ℕ, suc, Bool, ◌==◌, ◌&&◌, List, [], ◌∷◌, ◌++◌, is_some, if◌then◌else◌}
use Rattle.qvt_metas.specs.Metamodels.{Metamodels, opposite}
use Rattle.qvt_model.specs.declared.data.Datum.{Datum}
use Rattle.qvt_model.specs.declared.data.Datum.TheVariants.{Bool as BoolDatum, Int, Str, Literal, Ref}
use Rattle.qvt_model.specs.declared.data.SlotData.{SlotData}
use Rattle.qvt_model.specs.declared.data.ObjectData.{ObjectData}
use Rattle.qvt_conform.specs.declared.links.ObjectLink.{ObjectLink}

abbrev pub link : ℕ → ℕ → ℕ → ObjectLink
link i f j = record { object = i; feature = f; target = j }

abbrev pub same_link : ObjectLink → ObjectLink → Bool
same_link a b = (a.object == b.object) && (a.feature == b.feature) && (a.target == b.target)

abbrev pub links_of_item : ℕ → ℕ → Datum → List ObjectLink
links_of_item i f (BoolDatum b) = []
links_of_item i f (Int z) = []
links_of_item i f (Str s) = []
links_of_item i f (Literal l) = []
links_of_item i f (Ref j) = link i f j ∷ []

abbrev pub links_of_items : ℕ → ℕ → List Datum → List ObjectLink
links_of_items i f [] = []
links_of_items i f (x ∷ xs) = links_of_item i f x ++ links_of_items i f xs

abbrev pub links_of_slot : Metamodels → ℕ → SlotData → List ObjectLink
links_of_slot m i s = if is_some (opposite m s.feature.0) then links_of_items i s.feature.0 s.items else []

abbrev pub links_of_slots : Metamodels → ℕ → List SlotData → List ObjectLink
links_of_slots m i [] = []
links_of_slots m i (s ∷ ss) = links_of_slot m i s ++ links_of_slots m i ss

-- of the objects from i on
abbrev pub links_from : Metamodels → ℕ → List ObjectData → List ObjectLink
links_from m i [] = []
links_from m i (o ∷ os) = links_of_slots m i o.slots ++ links_from m (suc i) os
