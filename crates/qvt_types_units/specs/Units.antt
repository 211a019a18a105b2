-- What is told of the heads of units, and the names of mappings.
use Rattle.std.specs.Prelude.{ℕ, ◌+◌, ◌==◌, ◌&&◌, ◌||◌, not, Bool, true, false, List, [], ◌∷◌, ◌++◌, length, Option, Some, None, is_none, Result, Ok, Err, codes, if◌then◌else◌}
use Rattle.std.specs.List.{list_any, flat_map}
use Rattle.std.specs.Str.{bytes_eq}
use Rattle.qvt_base.specs.declared.numbers.Place.{Place}
use Rattle.qvt_metamodel.specs.Metamodels.{Metamodels, class_at}
use Rattle.qvt_metamodel.specs.Named.{metamodel_at}
use Rattle.qvt_tree_types.specs.Tree.{TypeTerm}
use Rattle.qvt_tree_types.specs.Module.{TypedName, HelperTerm, MappingTerm, UnitTerm, ClassOf, MainOf, HelperOf, ConstructorOf, MappingOf}
use Rattle.qvt_tree_types.specs.declared.module.ResultDecl.{ResultDecl}
use Rattle.qvt_types_data.specs.declared.refusal.TypingRefusal.{TypingRefusal}
use Rattle.qvt_types_data.specs.declared.refusal.RefusalKind.TheVariants.{SameName, BadOverride, BadContext, BadExtent, NoMain}
use Rattle.qvt_types_data.specs.declared.ty.Ty.{Ty}
use Rattle.qvt_types_classes.specs.declared.models.Models.{Models}
use Rattle.qvt_types_classes.specs.ModelTypes.{NamedTypes}
use Rattle.qvt_types_classes.specs.Models.{extent}
use Rattle.qvt_types_classes.specs.Paths.{path_class, written_type}
use Rattle.qvt_types_classes.specs.Told.{told_if}
use Rattle.qvt_types_classes.specs.Written.{told_of}
use Rattle.qvt_types_units.specs.declared.signature.HeadClass.{HeadClass}
use Rattle.qvt_types_units.specs.declared.signature.HeadClass.TheVariants.{Missing, Unknown, Known}
use Rattle.qvt_types_units.specs.declared.signature.Signature.{Signature}
use Rattle.qvt_types_units.specs.Signatures.{front_of, last_of, head_class, context_of}
use Rattle.qvt_types_units.specs.Numbers.{is_mapping, is_helper, is_constructor, is_main}
use Rattle.qvt_types_units.specs.Overrides.{is_bad_override}
use Rattle.qvt_types_units.specs.Reuse.{mapping_told}

abbrev pub front_told : Metamodels → NamedTypes → Place → List (List ℕ) → List TypingRefusal
front_told m t at front = if length front == 0 then [] else told_of at (path_class m t front)

-- a context that names no class is told at the unit
unfoldable pub context_told : Metamodels → NamedTypes → Place → List (List ℕ) → List TypingRefusal
context_told m t at path = front_told m t at (front_of path)

abbrev pub type_told : Result Ty TypingRefusal → List TypingRefusal
type_told (Ok T) = []
type_told (Err told) = told ∷ []

abbrev pub params_told : Metamodels → NamedTypes → List TypedName → List TypingRefusal
params_told m t ps = flat_map (λ p. type_told (written_type m t p.kind)) ps

abbrev pub answer_told : Metamodels → NamedTypes → Option TypeTerm → List TypingRefusal
answer_told m t None = []
answer_told m t (Some T) = type_told (written_type m t T)

-- a constructor stands in a class, and has its name
abbrev pub is_bad_context : Metamodels → HeadClass → List ℕ → Bool
is_bad_context e Missing name = true
is_bad_context e Unknown name = false
is_bad_context e (Known c) name = not (bytes_eq name (class_at e c.0).name)

-- no extent for the result; `last` is the metamodel of the intermediate classes
abbrev pub lacks_extent : Metamodels → Models → ℕ → Option (List ℕ) → HeadClass → Bool
lacks_extent e s last name Missing = false
lacks_extent e s last name Unknown = false
lacks_extent e s last name (Known c) = is_none (extent s last name (class_at e c.0).metamodel)

abbrev pub result_told : Metamodels → Metamodels → NamedTypes → Models → Option ResultDecl → List TypingRefusal
result_told m e t s None = []
result_told m e t s (Some r) =
    told_of r.path.place (path_class m t r.path.names)
    ++ told_if (lacks_extent e s (length m.metamodels) r.extent (head_class (path_class m t r.path.names))) BadExtent r.place

abbrev pub helper_told : Metamodels → NamedTypes → HelperTerm → List TypingRefusal
helper_told m t h = context_told m t h.place h.path ++ params_told m t h.params ++ answer_told m t h.answer

abbrev pub constructor_told : Metamodels → Metamodels → NamedTypes → HelperTerm → List TypingRefusal
constructor_told m e t h = helper_told m t h ++ told_if (is_bad_context e (context_of m t h.path) (last_of h.path)) BadContext h.place

abbrev pub mapping_head_told : Metamodels → Metamodels → NamedTypes → Models → MappingTerm → List TypingRefusal
mapping_head_told m e t s u = context_told m t u.place u.path ++ params_told m t u.params ++ result_told m e t s u.result_decl

-- the head of a unit by itself; m are the metamodels that are given, e those with the intermediate classes
unfoldable pub head_told : Metamodels → Metamodels → NamedTypes → Models → UnitTerm → List TypingRefusal
head_told m e t s (ClassOf c) = []
head_told m e t s (MainOf body at) = []
head_told m e t s (HelperOf h) = helper_told m t h
head_told m e t s (ConstructorOf h) = constructor_told m e t h
head_told m e t s (MappingOf u) = mapping_head_told m e t s u

abbrev pub same_context : HeadClass → HeadClass → Bool
same_context Missing Missing = true
same_context (Known c) (Known d) = c.0 == d.0
same_context _ _ = false

abbrev pub same_class : HeadClass → HeadClass → Bool
same_class (Known c) (Known d) = c.0 == d.0
same_class _ _ = false

-- two units that no call could tell apart
unfoldable pub are_same : Signature → Signature → Bool
are_same u v =
    (is_main u.sort && is_main v.sort)
    || (((is_mapping u.sort && is_mapping v.sort) || (is_helper u.sort && is_helper v.sort)) && (bytes_eq u.name v.name && same_context u.context v.context))
    || (is_constructor u.sort && is_constructor v.sort && same_class u.context v.context && (length u.params == length v.params))

-- an earlier unit is the same
abbrev pub same_told : List Signature → List Signature → List TypingRefusal
same_told earlier [] = []
same_told earlier (u ∷ us) = told_if (list_any (are_same u) earlier) SameName u.place ++ same_told (earlier ++ u ∷ []) us

abbrev pub overrides_told : Metamodels → List Signature → List Signature → List TypingRefusal
overrides_told e all us = flat_map (λ u. told_if (is_bad_override e all u) BadOverride u.place) us

-- what is told of unit n by what stands beside it
abbrev pub lists_told : Metamodels → Metamodels → NamedTypes → List Signature → List (List ℕ) → ℕ → List UnitTerm → List TypingRefusal
lists_told m e t us lists n [] = []
lists_told m e t us lists n (MappingOf u ∷ more) = mapping_told m e t us lists n u ++ lists_told m e t us lists (n + 1) more
lists_told m e t us lists n (_ ∷ more) = lists_told m e t us lists (n + 1) more

-- a transformation has a `main`
abbrev pub main_told : List Signature → Place → List TypingRefusal
main_told us end = told_if (not (list_any (λ u. is_main u.sort) us)) NoMain end

abbrev pub class_path : Metamodels → List ℕ → ℕ → List ℕ
class_path e name c = (class_at e c).name ++ codes "::" ++ name

abbrev pub qualified : List ℕ → List ℕ → List ℕ
qualified [] path = path
qualified (b ∷ bs) path = (b ∷ bs) ++ codes "::" ++ path

-- the name of a mapping as a trace has it: metamodel, class and name; classes beside the metamodels have no metamodel's name
abbrev pub traced_name : Metamodels → HeadClass → List ℕ → List ℕ
traced_name e (Known c) name = qualified (metamodel_at e (class_at e c.0).metamodel).name (class_path e name c.0)
traced_name e Missing name = name
traced_name e Unknown name = name
