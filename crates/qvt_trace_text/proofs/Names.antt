-- The names of mappings and classes.
use Rattle.std.proofs.Common.{◌≡◌, ◌∙◌, refl, ap, ℕ, suc, ◌==◌, true, false, List, [], ◌∷◌, length, Option, Some, None, position, arith}
use Rattle.std.proofs.lemmas.Bool.{eqb-true}
use Rattle.qvt_types_program.specs.Mappings as by_units
use Rattle.qvt_types_units.specs.declared.signature.Signature.{Signature}
use Rattle.qvt_types_units.specs.declared.signature.UnitSort.{UnitSort}
use Rattle.qvt_types_units.specs.declared.signature.UnitSort.TheVariants as sort
use Rattle.qvt_types_units.specs.Units.{traced_name}
use Rattle.qvt_typing.specs.Accepts.{ProgramTerm}
use Rattle.qvt_meaning.specs.Program.{is_mapping_of, mapping_unit}
use Rattle.qvt_meaning_report.specs.TraceText.{mapping_path, signature_at, under, with_colons}

pub not_under : (front name : List ℕ) → (length front == 0) ≡ true → under front name ≡ name
not_under [] name h = refl
not_under (b ∷ bs) name h = let none : suc (length bs) ≡ 0 = eqb-true (suc (length bs)) 0 h in absurd (omega (arith, none))

pub is_under : (front name : List ℕ) → (length front == 0) ≡ false → under front name ≡ with_colons front name
is_under [] name h = absurd (cc)
is_under (b ∷ bs) name h = refl

same_sort : (k : ℕ) (s : UnitSort) → by_units.is_mapping_of k s ≡ is_mapping_of k s
same_sort k (sort.Mapping n) = refl
same_sort k sort.Class = refl
same_sort k sort.Main = refl
same_sort k sort.Helper = refl
same_sort k sort.Query = refl
same_sort k sort.Constructor = refl

same_unit : (p : ProgramTerm) (k : ℕ) → by_units.mapping_unit p.heads.units k ≡ mapping_unit p k
unfolding mapping_unit by_units.mapping_unit
same_unit p k = λ i. position (λ (u : Signature). same_sort k u.sort i) p.heads.units

named : (p : ProgramTerm) (o : Option ℕ) → by_units.traced p.heads.metas (by_units.signature_at p.heads.units o) ≡ traced_name p.heads.metas (signature_at p o).context (signature_at p o).name
named p None = refl
named p (Some n) = refl

pub mapping_named : (p : ProgramTerm) (k : ℕ) → by_units.mapping_name p.heads.metas p.heads.units k ≡ mapping_path p k
unfolding mapping_path
mapping_named p k = ap (λ o. by_units.traced p.heads.metas (by_units.signature_at p.heads.units o)) (same_unit p k) ∙ named p (mapping_unit p k)
