-- The form of a model's file.
use Rattle.std.specs.Prelude.{◌∷◌, [], codes}
use Rattle.qvt_json.specs.Leaves.{is_json_text, is_text_of, is_id, is_json_object}
use Rattle.qvt_json.specs.Shape.{Form, leaf, form_of_list, form_of_object, required, optional}

unfoldable pub object_form : Form
object_form = form_of_object (required (codes "class") (leaf is_json_text) ∷ required (codes "id") (leaf (is_text_of is_id)) ∷ optional (codes "slots") (leaf is_json_object) ∷ [])

unfoldable pub model_form : Form
model_form = form_of_object (required (codes "objects") (form_of_list object_form) ∷ [])
