-- What is ruled of steps whose argument is a class: the tests and casts of objects (OCL 2.4, 11.3.3), the selections of a
-- collection's items by class (11.7.1), and the operations of models (QVT 1.3, 8.3.4).
use Rattle.std.specs.Prelude.{ℕ, Bool, true, false, if◌then◌else◌, List, [], ◌∷◌, Option, Some, None, codes}
use Rattle.std.specs.List.{list_any}
use Rattle.std.specs.Str.{bytes_eq}
use Rattle.qvt_base.specs.declared.numbers.ClassNo.{ClassNo}
use Rattle.qvt_tree_types.specs.declared.words.CollKind.{CollKind}
use Rattle.qvt_tree_types.specs.declared.words.CollKind.TheVariants as coll
use Rattle.qvt_types_data.specs.declared.ty.Ty.{Ty}
use Rattle.qvt_types_data.specs.declared.ty.Ty.TheVariants as ty
use Rattle.qvt_types_data.specs.Notes.{plain, ruled_wrapped}
use Rattle.qvt_types_data.specs.declared.note.Reading.TheVariants as reading
use Rattle.qvt_types_data.specs.declared.refusal.RefusalKind.TheVariants as refusal
use Rattle.qvt_types_data.specs.declared.ruling.Ruling.{Ruling}
use Rattle.qvt_types_data.specs.declared.ruling.Ruling.TheVariants.{Holds, Fails, Silent}
use Rattle.qvt_types_words.specs.Types.{innermost, Collection}
use Rattle.qvt_types_steps.specs.Calls.{collected, source_of, is_single_type}
use Rattle.qvt_types_steps.specs.Iterators.{is_object}
use Rattle.qvt_types_steps.specs.declared.classes.ClassPart.{ClassPart}
use Rattle.qvt_types_steps.specs.declared.classes.ClassPart.TheVariants as part
use Rattle.qvt_types_steps.specs.declared.classes.ClassTest.{ClassTest}
use Rattle.qvt_types_steps.specs.declared.classes.ClassTest.TheVariants.{IsKindOf, IsTypeOf, AsType}
use Rattle.qvt_types_steps.specs.declared.classes.ModelCall.{ModelCall}
use Rattle.qvt_types_steps.specs.declared.classes.ModelCall.TheVariants.{Objects, RootObjects, ObjectsOfType}

abbrev pub is_untyped : ClassPart → Bool
is_untyped part.Untyped = true
is_untyped p = false

-- a class, or WrongType where there is none
abbrev pub class_answer : List ℕ → (ClassNo → Ty) → ClassPart → Ruling
class_answer name f (part.Class c) = Holds (plain (reading.Operation name) (Some (f c)))
class_answer name f part.Missing = Fails refusal.WrongType
class_answer name f part.Untyped = Silent

-- a step that takes one class and answers by it
abbrev pub with_class : List ℕ → (ClassNo → Ty) → List ClassPart → Ruling
with_class name f [] = Fails refusal.WrongCount
with_class name f (p ∷ []) = class_answer name f p
with_class name f (p ∷ q ∷ ps) = Fails refusal.WrongCount

-- The tests and casts, behind a dot.

unfoldable pub class_test_named : List ℕ → Option ClassTest
class_test_named name =
    if bytes_eq name (codes "oclIsKindOf") then Some IsKindOf
    else if bytes_eq name (codes "oclIsTypeOf") then Some IsTypeOf
    else if bytes_eq name (codes "oclAsType") then Some AsType
    else None

abbrev pub test_type : ClassTest → ClassNo → Ty
test_type IsKindOf c = ty.Boolean
test_type IsTypeOf c = ty.Boolean
test_type AsType c = ty.Class c

-- an object alone has them
abbrev pub tested : List ℕ → ClassTest → Ty → List ClassPart → Ruling
tested name o (ty.Class c) ps = with_class name (test_type o) ps
tested name o t ps = Fails refusal.UnknownName

abbrev pub test_on : List ℕ → ClassTest → Ty → List ClassPart → Ruling
test_on name o t ps = if list_any is_untyped ps then Silent else collected t (tested name o (innermost t) ps)

abbrev pub class_test : List ℕ → ClassTest → Option Ty → List ClassPart → Ruling
class_test name o None ps = Silent
class_test name o (Some t) ps = test_on name o t ps

-- The selections, behind an arrow: selectByKind and selectByType, of objects. They take no Head.

abbrev pub is_selection : List ℕ → Bool
is_selection name = if bytes_eq name (codes "selectByKind") then true else bytes_eq name (codes "selectByType")

abbrev pub objects_in : CollKind → ClassNo → Ty
objects_in k c = ty.Coll k (ty.Class c)

abbrev pub selected : List ℕ → Collection → List ClassPart → Ruling
selected name s [] = Fails refusal.WrongCount
selected name s (p ∷ []) = if is_object s.item then class_answer name (objects_in s.kind) p else Fails refusal.WrongType
selected name s (p ∷ q ∷ ps) = Fails refusal.WrongCount

abbrev pub selection_over : List ℕ → Bool → Collection → List ClassPart → Ruling
selection_over name has_head s ps = if has_head then Fails refusal.WrongCount else selected name s ps

abbrev pub selection_on : List ℕ → Bool → Ty → List ClassPart → Ruling
selection_on name has_head t ps = if list_any is_untyped ps then Silent else ruled_wrapped (is_single_type t) (selection_over name has_head (source_of t) ps)

abbrev pub selection : List ℕ → Bool → Option Ty → List ClassPart → Ruling
selection name has_head None ps = Silent
selection name has_head (Some t) ps = selection_on name has_head t ps

-- The operations of models, behind a dot. The class Element is above all classes.

unfoldable pub model_call_named : List ℕ → Option ModelCall
model_call_named name =
    if bytes_eq name (codes "objects") then Some Objects
    else if bytes_eq name (codes "rootObjects") then Some RootObjects
    else if bytes_eq name (codes "objectsOfType") then Some ObjectsOfType
    else None

-- objects and rootObjects, with so many arguments
abbrev pub model_objects : List ℕ → ClassNo → Option (List Ty) → Ruling
model_objects name element None = Silent
model_objects name element (Some []) = Holds (plain (reading.Operation name) (Some (objects_in coll.OrderedSet element)))
model_objects name element (Some (t ∷ ts)) = Fails refusal.WrongCount

-- objectsOfType
abbrev pub model_objects_of : List ℕ → List ClassPart → Ruling
model_objects_of name ps = if list_any is_untyped ps then Silent else with_class name (objects_in coll.OrderedSet) ps
