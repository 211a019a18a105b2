-- The form of a metamodel's file: which keys its objects have, and what stands at each. Keys stand in byte order.
use Rattle.std.specs.Prelude.{ℕ, [], ◌∷◌, Bool, ◌||◌, codes}
use Rattle.std.specs.Str.{bytes_eq}
use Rattle.serde_json.specs.Data.{Data}
use Rattle.qvt_base.specs.Names.{is_name}
use Rattle.qvt_base.specs.Names.{is_file}
use Rattle.qvt_json.specs.Leaves.{is_text_of, is_flag, is_count}
use Rattle.qvt_json.specs.Shape.{Form, leaf, form_of_list, form_of_object, required, optional}

abbrev pub name_form : Form
name_form = leaf (is_text_of is_name)

-- how large a bound of a feature is at most
abbrev pub most_bound : ℕ
most_bound = 1000000

-- a whole number from 1 to most_bound, or `*` for no bound
abbrev pub is_upper : Data → Bool
is_upper d = is_count 1 most_bound d || is_text_of (bytes_eq (codes "*")) d

unfoldable pub feature_form : Form
feature_form = form_of_object (
    optional (codes "containment") (leaf is_flag) ∷ optional (codes "lower") (leaf (is_count 0 most_bound)) ∷ required (codes "name") name_form
    ∷ optional (codes "opposite") name_form ∷ optional (codes "ordered") (leaf is_flag) ∷ required (codes "type") name_form
    ∷ optional (codes "unique") (leaf is_flag) ∷ optional (codes "upper") (leaf is_upper) ∷ [])

unfoldable pub class_form : Form
class_form = form_of_object (
    optional (codes "abstract") (leaf is_flag) ∷ optional (codes "features") (form_of_list feature_form) ∷ required (codes "name") name_form
    ∷ optional (codes "supers") (form_of_list name_form) ∷ [])

unfoldable pub enum_form : Form
enum_form = form_of_object (required (codes "literals") (form_of_list name_form) ∷ required (codes "name") name_form ∷ [])

unfoldable pub meta_form : Form
meta_form = form_of_object (
    required (codes "classes") (form_of_list class_form) ∷ optional (codes "enums") (form_of_list enum_form) ∷ required (codes "name") name_form
    ∷ optional (codes "uri") (leaf (is_text_of is_file)) ∷ [])
