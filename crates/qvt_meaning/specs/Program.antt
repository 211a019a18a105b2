-- What a run asks of the program: units by number, mappings by number, the choice of a unit, what a resolve is as it is written (QVT 1.3,
-- 8.1.10, 8.2.1.10, 8.2.1.15 and 8.2.1.22).
use Rattle.std.specs.Prelude.{ℕ, zero, suc, ◌==◌, Bool, false, if◌then◌else◌, List, [], ◌∷◌, ◌++◌, length, map, position, slice_get, Option, Some, None}
use Rattle.std.specs.List.{list_any, flat_map, filter_map, fold}
use Rattle.qvt_base.specs.declared.numbers.ExprNo.{ExprNo}
use Rattle.qvt_base.specs.declared.numbers.MappingNo.{MappingNo}
use Rattle.qvt_base.specs.declared.numbers.Oid.{Oid}
use Rattle.qvt_tree_types.specs.Resolves.{is_one, is_inverse}
use Rattle.qvt_tree_types.specs.declared.words.ResolveWord.{ResolveWord}
use Rattle.qvt_types_data.specs.declared.note.Reading.{Reading}
use Rattle.qvt_types_data.specs.declared.note.Reading.TheVariants as reading
use Rattle.qvt_types_nodes.specs.declared.types.TypedPathTree.{TypedPathTree}
use Rattle.qvt_types_nodes.specs.Tree.{TypedOptionalExpr, TypedNoExpr, TypedSomeExpr, TypedResolveTerm, TypedResolveOf, TypedFilterTerm, TypedNoFilter, TypedFilterOf}
use Rattle.qvt_types_nodes.specs.Module.{TypedMappingTerm, TypedUnitTerm, TypedMappingOf}
use Rattle.qvt_typing.specs.declared.signature.HeadClass.{HeadClass}
use Rattle.qvt_typing.specs.declared.signature.HeadClass.TheVariants as head
use Rattle.qvt_typing.specs.declared.signature.Signature.{Signature}
use Rattle.qvt_typing.specs.declared.signature.UnitSort.{UnitSort}
use Rattle.qvt_typing.specs.declared.signature.UnitSort.TheVariants as sort
use Rattle.qvt_typing.specs.Choice as units
use Rattle.qvt_typing.specs.Numbers.{unit_at, has_context}
use Rattle.qvt_typing.specs.Accepts.{ProgramTerm}
use Rattle.qvt_slots.specs.Contents.{Contents, class_of, is_live}
use Rattle.qvt_run_data.specs.declared.callee.Callee.{Callee}
use Rattle.qvt_run_data.specs.declared.callee.Callee.TheVariants.{HelperCall, MappingCall}
use Rattle.qvt_run_data.specs.declared.callee.Way.TheVariants.{Called}
use Rattle.qvt_run_data.specs.declared.request.RequestForm.{RequestForm}
use Rattle.qvt_meaning.specs.Nodes.{mark_of, class_in, written_type, mappings_in, mappings_named}

-- Units.

abbrev pub unit_term : ProgramTerm → ℕ → Option TypedUnitTerm
unit_term p n = slice_get p.module_.units n

abbrev pub signature_of : ProgramTerm → ℕ → Signature
signature_of p n = unit_at p.heads.units n

abbrev pub known_class : HeadClass → Option ℕ
known_class (head.Known c) = Some c.0
known_class h = None

-- Mappings have numbers of their own.

abbrev pub is_mapping_of : ℕ → UnitSort → Bool
is_mapping_of k (sort.Mapping n) = n.0 == k
is_mapping_of k s = false

abbrev pub is_mapping_number : ℕ → Signature → Bool
is_mapping_number k u = is_mapping_of k u.sort

-- the unit that mapping k is
unfoldable pub mapping_unit : ProgramTerm → ℕ → Option ℕ
mapping_unit p k = position (is_mapping_number k) p.heads.units

abbrev pub mapping_in : Option TypedUnitTerm → Option TypedMappingTerm
mapping_in (Some (TypedMappingOf m)) = Some m
mapping_in u = None

abbrev pub mapping_at : ProgramTerm → Option ℕ → Option TypedMappingTerm
mapping_at p None = None
mapping_at p (Some n) = mapping_in (unit_term p n)

unfoldable pub mapping_term : ProgramTerm → ℕ → Option TypedMappingTerm
mapping_term p k = mapping_at p (mapping_unit p k)

abbrev pub numbers : List MappingNo → List ℕ
numbers ms = map (λ m. m.0) ms

-- The choice of a unit by the class of an object.

-- the units of a reading
abbrev pub units_in : ProgramTerm → Reading → List ℕ
units_in p (reading.Units ns) = ns
units_in p (reading.Mappings ms) = filter_map (mapping_unit p) (numbers ms)
units_in p r = []

-- the call of a unit on its context; of a mapping by a `map`, or by an `xmap` where this is true
abbrev pub callee_by : UnitSort → Bool → ℕ → Option Oid → Callee
callee_by (sort.Mapping k) strict n o = MappingCall k.0 (Called strict) o
callee_by s strict n o = HelperCall n o

abbrev pub callee : ProgramTerm → Bool → Option Oid → ℕ → Callee
callee p strict o n = callee_by (signature_of p n).sort strict n o

abbrev pub callee_at : ProgramTerm → Bool → Option Oid → Option ℕ → Option Callee
callee_at p strict o None = None
callee_at p strict o (Some n) = Some (callee p strict o n)

-- the unit for an object that is there
unfoldable pub chosen_for : ProgramTerm → Reading → Bool → Oid → Contents → Option Callee
chosen_for p r strict o s =
    if is_live s o.0 then callee_at p strict (Some o) (units.chosen p.heads.metas p.heads.units (units_in p r) (class_of s o.0)) else None

-- the one unit of a reading, if it has no context
abbrev pub if_free : ProgramTerm → Bool → List ℕ → Option Callee
if_free p strict (n ∷ []) = if has_context (signature_of p n).context then None else Some (callee p strict None n)
if_free p strict ns = None

unfoldable pub free_callee : ProgramTerm → Reading → Bool → Option Callee
free_callee p r strict = if_free p strict (units_in p r)

-- Resolves.

abbrev pub disjuncts_in : Option TypedMappingTerm → List ℕ
disjuncts_in None = []
disjuncts_in (Some m) = numbers (mappings_named m.disjuncts)

-- the mapping, and those it disjuncts to, through fewer than n mappings, depth first
abbrev pub listed_from : ProgramTerm → ℕ → ℕ → List ℕ
listed_from p zero k = []
listed_from p (suc n) k = k ∷ flat_map (listed_from p n) (disjuncts_in (mapping_term p k))

abbrev pub with_number : List ℕ → ℕ → List ℕ
with_number done k = if list_any (λ j. j == k) done then done else done ++ k ∷ []

-- the named mapping first, then those it disjuncts to, through any depth, each once
unfoldable pub listed_with : ProgramTerm → ℕ → List ℕ
listed_with p k = fold with_number [] (listed_from p (length p.module_.units) k)

abbrev pub as_mappings : List ℕ → List MappingNo
as_mappings ks = map (λ k. record { 0 = k }) ks

abbrev pub named_mapping : List MappingNo → Option ℕ
named_mapping (m ∷ []) = Some m.0
named_mapping ms = None

-- the mapping that an `In` form names
abbrev pub within_named : Option TypedPathTree → Option ℕ
within_named None = None
within_named (Some path) = named_mapping (mappings_in path.note.reading)

abbrev pub all_within : ProgramTerm → Option ℕ → Option (List MappingNo)
all_within p None = None
all_within p (Some k) = Some (as_mappings (listed_with p k))

-- the class of its result, in the inverse forms of its context
abbrev pub end_class : ResolveWord → Signature → Option ℕ
end_class w u = known_class (if is_inverse w then u.context else u.result)

abbrev pub unit_class : ProgramTerm → ResolveWord → Option ℕ → Option ℕ
unit_class p w None = None
unit_class p w (Some n) = end_class w (signature_of p n)

abbrev pub mapping_class : ProgramTerm → ResolveWord → Option ℕ → Option ℕ
mapping_class p w None = None
mapping_class p w (Some k) = unit_class p w (mapping_unit p k)

-- the class that is looked for: that of the filter, else that of the named mapping
abbrev pub class_for : ProgramTerm → ResolveWord → Option ℕ → TypedFilterTerm → Option ℕ
class_for p w k (TypedFilterOf name t c at n) = class_in (written_type t)
class_for p w k TypedNoFilter = mapping_class p w k

abbrev pub number_of : TypedOptionalExpr → Option ExprNo
number_of TypedNoExpr = None
number_of (TypedSomeExpr e) = (mark_of e).note.number

abbrev pub condition_in : TypedFilterTerm → Option ExprNo
condition_in (TypedFilterOf name t c at n) = number_of c
condition_in TypedNoFilter = None

abbrev pub form_with : ProgramTerm → ResolveWord → Option ℕ → TypedFilterTerm → Option ℕ → Option RequestForm
form_with p w k f None = None
form_with p w k f (Some c) = Some (record { inverse = is_inverse w; within = all_within p k; class = c; one = is_one w; condition = condition_in f })

-- a resolve as it is written
unfoldable pub form_of : ProgramTerm → TypedResolveTerm → Option RequestForm
form_of p (TypedResolveOf late w within f at n) = form_with p w (within_named within) f (class_for p w (within_named within) f)
