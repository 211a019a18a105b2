-- What is ruled of a step that calls a unit, once the unit is chosen: the class that decides the choice, the arguments, and the
-- type by the answer of the unit (QVT 1.3, 8.2.1 and 8.2.2).
use Rattle.std.specs.Prelude.{ℕ, ◌==◌, Bool, true, false, if◌then◌else◌, List, [], ◌∷◌, length, Option, Some, None}
use Rattle.qvt_types_words.specs.Metamodels.{Metamodels}
use Rattle.qvt_tree_types.specs.declared.words.CollKind.TheVariants as coll
use Rattle.qvt_types_data.specs.declared.ty.Ty.{Ty}
use Rattle.qvt_types_data.specs.declared.ty.Ty.TheVariants as ty
use Rattle.qvt_types_data.specs.Notes.{plain}
use Rattle.qvt_types_data.specs.declared.note.Reading.{Reading}
use Rattle.qvt_types_data.specs.declared.refusal.RefusalKind.{RefusalKind}
use Rattle.qvt_types_data.specs.declared.refusal.RefusalKind.TheVariants as refusal
use Rattle.qvt_types_data.specs.declared.ruling.Ruling.{Ruling}
use Rattle.qvt_types_data.specs.declared.ruling.Ruling.TheVariants.{Holds, Silent}
use Rattle.qvt_types_words.specs.Types.{conforms, innermost}
use Rattle.qvt_types_steps.specs.Calls.{source_of, is_single_type, collected}
use Rattle.qvt_types_steps.specs.declared.classes.ClassPart.{ClassPart}
use Rattle.qvt_types_steps.specs.declared.classes.ClassPart.TheVariants as part

abbrev pub class_in : Ty → ClassPart
class_in (ty.Class c) = part.Class c
class_in t = part.Missing

abbrev pub class_at : Bool → Ty → ClassPart
class_at true t = class_in (source_of t).item
class_at false t = class_in (innermost t)

-- the static class of a call behind an arrow, or behind a dot: that of the items where the source is a collection
abbrev pub static_class : Bool → Option Ty → ClassPart
static_class arrow None = part.Untyped
static_class arrow (Some t) = class_at arrow t

-- the arguments of a call and the types of the parameters, of which some may be unknown
abbrev pub conforms_if_known : Metamodels → Ty → Option Ty → Bool
conforms_if_known m t None = true
conforms_if_known m t (Some u) = conforms m t u

abbrev pub arguments_conform : Metamodels → List (Option Ty) → List Ty → Bool
arguments_conform m (p ∷ ps) (t ∷ ts) = if conforms_if_known m t p then arguments_conform m ps ts else false
arguments_conform m ps ts = true

abbrev pub arguments_wrong : Metamodels → List (Option Ty) → List Ty → Option RefusalKind
arguments_wrong m ps ts =
    if length ts == length ps then (if arguments_conform m ps ts then None else Some refusal.WrongType)
    else Some refusal.WrongCount

-- a helper or a query behind a dot, which over a collection is called for each item
abbrev pub unit_step : Option Ty → Reading → Option Ty → Ruling
unit_step (Some t) r (Some a) = collected t (Holds (plain r (Some a)))
unit_step None r a = Silent
unit_step (Some t) r None = Silent

abbrev pub sequence : Bool → Bool → Reading → Ty → Ruling
sequence w c r a = Holds (record { reading = r; source = None; wrap = w; collect = c; answer = Some (ty.Coll coll.Sequence a) })

abbrev pub mapped : Bool → Ty → Reading → Ty → Ruling
mapped true t r a = sequence (is_single_type t) false r a
mapped false t r a = if is_single_type t then Holds (plain r (Some a)) else sequence false true r a

-- a mapping behind an arrow, or behind a dot: over a collection it is called for each item, and the answer is the Sequence of
-- the results
abbrev pub mapping_step : Bool → Option Ty → Reading → Option Ty → Ruling
mapping_step arrow (Some t) r (Some a) = mapped arrow t r a
mapping_step arrow None r a = Silent
mapping_step arrow (Some t) r None = Silent
