-- Units are signed in order, and mappings numbered.
use Rattle.std.proofs.Common.{◌≡◌, ◌∙◌, refl, sym, ap, subst, ℕ, zero, suc, ◌<◌, Bool, true, false, List, [], ◌∷◌, length, map, Some}
use Rattle.std.specs.Prelude.{if◌then◌else◌, slice_get}
use Rattle.std.proofs.lemmas.Bool.{false≢true}
use Rattle.std.proofs.lemmas.List.{length-map}
use Rattle.std.proofs.lemmas.List.Quantifiers.{position-Some}
use Rattle.std.proofs.lemmas.Option.{slice_get-get_or}
use Rattle.qvt_metamodel.specs.Metamodels.{Metamodels}
use Rattle.qvt_tree_types.specs.Module.{ModuleTerm, UnitTerm}
use Rattle.qvt_types_data.specs.declared.note.Note.{Note}
use Rattle.qvt_types_laws.specs.JoinModule.{joined}
use Rattle.qvt_types_nodes.specs.Module.{TypedMappingTerm, TypedUnitTerm, TypedClassOf, TypedMainOf, TypedHelperOf, TypedConstructorOf, TypedMappingOf}
use Rattle.qvt_types_nodes.specs.StripModule.{strip, strip_unit}
use Rattle.qvt_types_paths.specs.ModelTypes.{NamedTypes, type_names}
use Rattle.qvt_types_units.specs.Numbers.{is_mapping, no_unit, unit_at}
use Rattle.qvt_types_units.specs.Signatures.{signature, signatures_from, mappings_with}
use Rattle.qvt_types_units.specs.declared.signature.Signature.{Signature}
use Rattle.qvt_types_units.specs.declared.signature.UnitSort.{UnitSort}
use Rattle.qvt_types_units.specs.declared.signature.UnitSort.TheVariants as sort
use Rattle.qvt_typing.specs.Accepts.{ProgramTerm, heads_of}
use Rattle.qvt_types_program.specs.Mappings.{AreNumbered, is_mapping_number, is_mapping_of, mapping_count, mapping_unit, mapping_units}
use Rattle.qvt_types_program.proofs.Counted.{counted}
use Rattle.qvt_types_program.proofs.Numbered.{unit_found}
use Rattle.qvt_types_program.proofs.Signed.{signed_from}
use Rattle.qvt_typed_laws.specs.Accepted.{IsJudged, AcceptedIsJudged}
use Rattle.qvt_program_laws.specs.Units.{UnitsAreSigned, MappingsAreUnits}

-- where notes leave every tree
abbrev pub NotesLeave : Type 0
NotesLeave = (t : ModuleTerm) (ns : List Note) → strip (joined t ns) ≡ t

-- the signatures of a program are those of its own units
abbrev own_signatures : Metamodels → ModuleTerm → ProgramTerm → List Signature
own_signatures m t p = signatures_from m (type_names m t.model_types t.units) 0 (map strip_unit p.module_.units)

signed : (m : Metamodels) (t : ModuleTerm) (p : ProgramTerm) → IsJudged m t p → NotesLeave → p.heads.units ≡ own_signatures m t p
unfolding heads_of
signed m t p is leaves =
    ap (λ h. h.units) is.heads
    ∙ ap (λ (x : ModuleTerm). signatures_from m (type_names m t.model_types t.units) 0 x.units) (sym (ap strip is.tree ∙ leaves t _))

as_many : (m : Metamodels) (names : NamedTypes) (n : ℕ) (us : List UnitTerm) → length (signatures_from m names n us) ≡ length us
as_many m names n [] = refl
as_many m names n (u ∷ us) = ap suc (as_many m names (mappings_with n u) us)

pub units_are_signed : AcceptedIsJudged → NotesLeave → UnitsAreSigned
units_are_signed judged leaves m t p e =
    ap length (signed m t p (judged m t p e) leaves)
    ∙ as_many m (type_names m t.model_types t.units) 0 (map strip_unit p.module_.units)
    ∙ length-map p.module_.units strip_unit

-- a unit whose signature is that of a mapping
pub record IsMappingAt (us : List TypedUnitTerm) (n : ℕ) : Type 0 where
  pub mapping : TypedMappingTerm
  pub is : slice_get us n ≡ Some (TypedMappingOf mapping)

not_helper : (pure : Bool) → is_mapping (if pure then sort.Query else sort.Helper) ≡ true → ⊥
not_helper true e = false≢true e
not_helper false e = false≢true e

mapping_at : (m : Metamodels) (names : NamedTypes) (n : ℕ) (us : List TypedUnitTerm) (i : ℕ) → is_mapping (unit_at (signatures_from m names n (map strip_unit us)) i).sort ≡ true → IsMappingAt us i
unfolding signature
mapping_at m names n [] i e = absurd (false≢true e)
mapping_at m names n (TypedClassOf c ∷ us) zero e = absurd (false≢true e)
mapping_at m names n (TypedMainOf body at note ∷ us) zero e = absurd (false≢true e)
mapping_at m names n (TypedHelperOf h ∷ us) zero e = absurd (not_helper h.pure e)
mapping_at m names n (TypedConstructorOf h ∷ us) zero e = absurd (false≢true e)
mapping_at m names n (TypedMappingOf u ∷ us) zero e = record { mapping = u; is = refl }
mapping_at m names n (u ∷ us) (suc i) e =
    let more = mapping_at m names (mappings_with n (strip_unit u)) us i e in
    record { mapping = more.mapping; is = more.is }

is_one : (k : ℕ) (s : UnitSort) → is_mapping_of k s ≡ true → is_mapping s ≡ true
is_one k (sort.Mapping n) e = refl
is_one k sort.Class e = e
is_one k sort.Main e = e
is_one k sort.Helper e = e
is_one k sort.Query e = e
is_one k sort.Constructor e = e

-- the unit that mapping k is
numbered_at : (us : List Signature) (k n : ℕ) → mapping_unit us k ≡ Some n → is_mapping (unit_at us n).sort ≡ true
unfolding mapping_unit
numbered_at us k n e = is_one k (unit_at us n).sort (position-Some (is_mapping_number k) us n no_unit e).1

pub record Unit_of (us : List Signature) (k : ℕ) : Type 0 where
  pub number : ℕ
  pub is : mapping_unit us k ≡ Some number

found : (us : List Signature) (k : ℕ) → AreNumbered 0 us → k < mapping_count us → Unit_of us k
found us k numbered l =
    let counted_so = counted (λ u. is_mapping u.sort) 0 us in
    record { number = _; is = sym (unit_found us k numbered) ∙ slice_get-get_or (mapping_units us) k 0 (subst (λ n. k < n) (sym counted_so) l) }

pub mappings_are_units : AcceptedIsJudged → NotesLeave → MappingsAreUnits
mappings_are_units judged leaves m t p e k l =
    let names = type_names m t.model_types t.units in
    let own = signed m t p (judged m t p e) leaves in
    let numbered : AreNumbered 0 p.heads.units = subst (AreNumbered 0) (sym own) (signed_from m names 0 (map strip_unit p.module_.units)) in
    let unit = found p.heads.units k numbered l in
    let one = numbered_at p.heads.units k unit.number unit.is in
    let written = mapping_at m names 0 p.module_.units unit.number (subst (λ us. is_mapping (unit_at us unit.number).sort ≡ true) own one) in
    record { number = unit.number; mapping = written.mapping; numbered = unit.is; written = written.is }
