-- Units and mappings by their numbers.
use Rattle.std.proofs.Common.{◌≡◌, ◌≤◌, ◌∙◌, ℕ, Bool, true, false, refl, sym, ap, List, [], ◌∷◌, ◌++◌, length, position, None, arith}
use Rattle.std.specs.List.{flat_map}
use Rattle.std.specs.Prelude.{if◌then◌else◌}
use Rattle.std.proofs.lemmas.List.{get_or_past, map-append}
use Rattle.qvt_base.specs.declared.numbers.MappingNo.{MappingNo}
use Rattle.qvt_tree_types.specs.Resolves.{is_inverse}
use Rattle.qvt_tree_types.specs.declared.words.ResolveWord.{ResolveWord}
use Rattle.qvt_types_nodes.specs.declared.types.TypedPathTree.{TypedPathTree}
use Rattle.qvt_exec_types.specs.Mappings as mappings_of
use Rattle.qvt_meaning.specs.Numbers.{no_unit, unit_at}
use Rattle.qvt_meaning.specs.declared.signature.Signature.{Signature}
use Rattle.qvt_meaning.specs.declared.signature.UnitSort.{UnitSort}
use Rattle.qvt_meaning.specs.declared.signature.UnitSort.TheVariants as sort
use Rattle.qvt_meaning.specs.Accepts.{ProgramTerm}
use Rattle.qvt_meaning.specs.Nodes.{mappings_in, mappings_named}
use Rattle.qvt_meaning.specs.Program as meaning

-- the unit that a mapping is

same_sort : (k : ℕ) (s : UnitSort) → mappings_of.is_mapping_of k s ≡ meaning.is_mapping_of k s
same_sort k (sort.Mapping n) = refl
same_sort k sort.Class = refl
same_sort k sort.Main = refl
same_sort k sort.Helper = refl
same_sort k sort.Query = refl
same_sort k sort.Constructor = refl

pub same_unit : (p : ProgramTerm) (k : ℕ) → mappings_of.mapping_unit p.heads.units k ≡ meaning.mapping_unit p k
unfolding mappings_of.mapping_unit meaning.mapping_unit
same_unit p k = λ i. position (λ (u : Signature). same_sort k u.sort i) p.heads.units

-- the mappings that paths name

numbers_of_lists : (f : TypedPathTree → List MappingNo) (ps : List TypedPathTree) → flat_map (λ (p : TypedPathTree). meaning.numbers (f p)) ps ≡ meaning.numbers (flat_map f ps)
numbers_of_lists f [] = refl
numbers_of_lists f (p ∷ ps) = ap (λ (l : List ℕ). meaning.numbers (f p) ++ l) (numbers_of_lists f ps) ∙ sym (map-append (λ m. m.0) (f p) (flat_map f ps))

pub numbers_joined : (ps : List TypedPathTree) → flat_map (λ (p : TypedPathTree). meaning.numbers (mappings_in p.note.reading)) ps ≡ meaning.numbers (mappings_named ps)
numbers_joined ps = numbers_of_lists (λ (p : TypedPathTree). mappings_in p.note.reading) ps

-- several mappings are not one
pub several : (ms : List MappingNo) → 2 ≤ length ms → None ≡ meaning.named_mapping ms
several [] many = absurd (omega (arith, many))
several (m ∷ []) many = absurd (omega (arith, many))
several (m ∷ n ∷ ms) many = refl

-- what stands for no unit has no class
pub no_class : (w : ResolveWord) (us : List Signature) (n : ℕ) → length us ≤ n → None ≡ meaning.end_class w (unit_at us n)
no_class w us n past = by (is_inverse w) ∙ ap (meaning.end_class w) (sym (get_or_past us n no_unit past))
  where
    by : (b : Bool) → None ≡ meaning.known_class (if b then no_unit.context else no_unit.result)
    by true = refl
    by false = refl
