-- What is written for a model: each object with its class, its id and its slots that are not empty; an item of upper bound 1 as
-- its value, others as a list.
use Rattle.std.specs.Prelude.{ℕ, List, [], ◌∷◌, map, codes, if◌then◌else◌}
use Rattle.serde_json.specs.Data.{Data, null, boolean, number, string, array, object, Items, Members, no_members, member}
use Rattle.serde_json.specs.Find.{of_integer}
use Rattle.serde_json.specs.View.{items_of}
use Rattle.qvt_metas.specs.Metamodels.{Metamodels, class_at, feature_at, is_single}
use Rattle.qvt_metas.specs.Named.{literal_at}
use Rattle.qvt_json.specs.Plain.{file_text}
use Rattle.qvt_model.specs.WellFormed.{object_data_at}
use Rattle.qvt_model.specs.declared.data.Datum.{Datum}
use Rattle.qvt_model.specs.declared.data.Datum.TheVariants.{Bool as BoolDatum, Int, Str, Literal, Ref}
use Rattle.qvt_model.specs.declared.data.SlotData.{SlotData}
use Rattle.qvt_model.specs.declared.data.ObjectData.{ObjectData}

-- a literal by its name, an object by its id
abbrev pub datum_value : Metamodels → List ObjectData → Datum → Data
datum_value m os (BoolDatum b) = boolean b
datum_value m os (Int z) = number (of_integer z)
datum_value m os (Str s) = string s
datum_value m os (Literal l) = string (literal_at m l.metamodel l.enumeration l.literal)
datum_value m os (Ref i) = string (object_data_at os i).id

abbrev pub first_value : Metamodels → List ObjectData → List Datum → Data
first_value m os [] = null
first_value m os (x ∷ xs) = datum_value m os x

abbrev pub slot_value : Metamodels → List ObjectData → SlotData → Data
slot_value m os s = if is_single m s.feature.0 then first_value m os s.items else array (items_of (map (datum_value m os) s.items))

abbrev pub slot_members : Metamodels → List ObjectData → List SlotData → Members
slot_members m os [] = no_members
slot_members m os (s ∷ ss) = member (feature_at m s.feature.0).name (slot_value m os s) (slot_members m os ss)

abbrev pub written_object : Metamodels → List ObjectData → ObjectData → Data
written_object m os o = object (
    member (codes "class") (string (class_at m o.class.0).name)
    (member (codes "id") (string o.id)
    (member (codes "slots") (object (slot_members m os o.slots)) no_members)))

abbrev pub object_values : Metamodels → List ObjectData → Items
object_values m os = items_of (map (written_object m os) os)

abbrev pub model_value : Metamodels → List ObjectData → Data
model_value m os = object (member (codes "objects") (array (object_values m os)) no_members)

unfoldable pub model_text : Metamodels → List ObjectData → List ℕ
model_text m os = file_text (model_value m os)
