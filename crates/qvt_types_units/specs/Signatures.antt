-- The signatures of units (QVT 1.3, 8.2.1.10 ImperativeOperation, 8.2.1.13 Helper, 8.2.1.14 Constructor, 8.2.1.15 MappingOperation).
use Rattle.std.specs.Prelude.{ℕ, ◌+◌, ◌-◌, ◌==◌, List, [], ◌∷◌, length, map, take, slice_index_or, Option, Some, None, Result, Ok, Err, if◌then◌else◌}
use Rattle.qvt_base.specs.declared.numbers.ClassNo.{ClassNo}
use Rattle.qvt_metamodel.specs.Metamodels.{Metamodels}
use Rattle.qvt_tree_types.specs.Tree.{TypeTerm}
use Rattle.qvt_tree_types.specs.Module.{TypedName, ClassTerm, HelperTerm, MappingTerm, UnitTerm, ClassOf, MainOf, HelperOf, ConstructorOf, MappingOf}
use Rattle.qvt_tree_types.specs.declared.module.ResultDecl.{ResultDecl}
use Rattle.qvt_types_data.specs.declared.refusal.TypingRefusal.{TypingRefusal}
use Rattle.qvt_types_data.specs.declared.refusal.RefusalKind.{RefusalKind}
use Rattle.qvt_types_data.specs.declared.ty.Ty.{Ty}
use Rattle.qvt_types_data.specs.declared.ty.Ty.TheVariants as ty
use Rattle.qvt_types_classes.specs.ModelTypes.{NamedTypes}
use Rattle.qvt_types_classes.specs.Paths.{path_class, written_type}
use Rattle.qvt_types_units.specs.declared.signature.UnitSort.{UnitSort}
use Rattle.qvt_types_units.specs.declared.signature.UnitSort.TheVariants as sort
use Rattle.qvt_types_units.specs.declared.signature.HeadClass.{HeadClass}
use Rattle.qvt_types_units.specs.declared.signature.HeadClass.TheVariants.{Missing, Unknown, Known}
use Rattle.qvt_types_units.specs.declared.signature.Signature.{Signature}

-- a path without its last name, and that name
abbrev pub front_of : List (List ℕ) → List (List ℕ)
front_of path = take (length path - 1) path

abbrev pub last_of : List (List ℕ) → List ℕ
last_of path = slice_index_or path (length path - 1) []

abbrev pub head_class : Result ClassNo RefusalKind → HeadClass
head_class (Ok c) = Known c
head_class (Err kind) = Unknown

abbrev pub front_class : Metamodels → NamedTypes → List (List ℕ) → HeadClass
front_class m t front = if length front == 0 then Missing else head_class (path_class m t front)

-- the context class of a unit: what stands before its name
unfoldable pub context_of : Metamodels → NamedTypes → List (List ℕ) → HeadClass
context_of m t path = front_class m t (front_of path)

abbrev pub found : Result Ty TypingRefusal → Option Ty
found (Ok T) = Some T
found (Err told) = None

abbrev pub param_types : Metamodels → NamedTypes → List TypedName → List (Option Ty)
param_types m t ps = map (λ p. found (written_type m t p.kind)) ps

-- without an answer type a unit answers null
abbrev pub answer_of : Metamodels → NamedTypes → Option TypeTerm → Option Ty
answer_of m t None = Some ty.Void
answer_of m t (Some T) = found (written_type m t T)

abbrev pub result_of : Metamodels → NamedTypes → Option ResultDecl → HeadClass
result_of m t None = Missing
result_of m t (Some r) = head_class (path_class m t r.path.names)

abbrev pub result_type : HeadClass → Option Ty
result_type Missing = Some ty.Void
result_type Unknown = None
result_type (Known c) = Some (ty.Class c)

abbrev pub of_class : ClassTerm → Signature
of_class c = record { sort = sort.Class; name = c.name; context = Missing; params = []; answer = Some ty.Void; result = Missing; place = c.place }

abbrev pub of_helper : Metamodels → NamedTypes → UnitSort → HelperTerm → Signature
of_helper m t s h = record {
  sort = s;
  name = last_of h.path;
  context = context_of m t h.path;
  params = param_types m t h.params;
  answer = answer_of m t h.answer;
  result = Missing;
  place = h.place;
}

abbrev pub of_mapping : Metamodels → NamedTypes → ℕ → MappingTerm → Signature
of_mapping m t n u = record {
  sort = sort.Mapping (record { 0 = n });
  name = last_of u.path;
  context = context_of m t u.path;
  params = param_types m t u.params;
  answer = result_type (result_of m t u.result_decl);
  result = result_of m t u.result_decl;
  place = u.place;
}

abbrev pub helper_sort : HelperTerm → UnitSort
helper_sort h = if h.pure then sort.Query else sort.Helper

-- of a unit before which this many mappings stand
unfoldable pub signature : Metamodels → NamedTypes → ℕ → UnitTerm → Signature
signature m t n (ClassOf c) = of_class c
signature m t n (MainOf body at) = record { sort = sort.Main; name = []; context = Missing; params = []; answer = Some ty.Void; result = Missing; place = at }
signature m t n (HelperOf h) = of_helper m t (helper_sort h) h
signature m t n (ConstructorOf h) = of_helper m t sort.Constructor h
signature m t n (MappingOf u) = of_mapping m t n u

abbrev pub mappings_with : ℕ → UnitTerm → ℕ
mappings_with n (MappingOf u) = n + 1
mappings_with n _ = n

abbrev pub signatures_from : Metamodels → NamedTypes → ℕ → List UnitTerm → List Signature
signatures_from m t n [] = []
signatures_from m t n (u ∷ us) = signature m t n u ∷ signatures_from m t (mappings_with n u) us

-- of all units; the number of a unit is its place
abbrev pub signatures : Metamodels → NamedTypes → List UnitTerm → List Signature
signatures m t us = signatures_from m t 0 us
