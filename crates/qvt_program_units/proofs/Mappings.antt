-- The units that mappings are.
use Rattle.std.proofs.Common.{◌≡◌, ◌∙◌, refl, ap, ℕ, zero, suc, ◌<◌, Bool, true, false, List, [], ◌∷◌, ◌++◌, drop, length, append_assoc, Option, Some, None, position, arith}
use Rattle.std.specs.List.{cons_option}
use Rattle.std.proofs.lemmas.Bool.{eqb-true}
use Rattle.qvt_base.specs.declared.numbers.MappingNo.{MappingNo}
use Rattle.qvt_relation.proofs.Bools.{and_left, and_right}
use Rattle.qvt_types_program.specs.Mappings as by_units
use Rattle.qvt_types_units.specs.declared.signature.Signature.{Signature}
use Rattle.qvt_types_units.specs.declared.signature.UnitSort.{UnitSort}
use Rattle.qvt_types_units.specs.declared.signature.UnitSort.TheVariants as sort
use Rattle.qvt_types_units.specs.Choice.{single}
use Rattle.qvt_types_program.specs.Accepts.{ProgramTerm}
use Rattle.qvt_meaning.specs.Program.{if_free, is_mapping_of, mapping_unit}
use Rattle.qvt_program_units.specs.Chosen.{are_units, as_list, free_at, is_unit, units_of}

same_sort : (k : ℕ) (s : UnitSort) → by_units.is_mapping_of k s ≡ is_mapping_of k s
same_sort k (sort.Mapping n) = refl
same_sort k sort.Class = refl
same_sort k sort.Main = refl
same_sort k sort.Helper = refl
same_sort k sort.Query = refl
same_sort k sort.Constructor = refl

pub same_unit : (p : ProgramTerm) (k : ℕ) → by_units.mapping_unit p.heads.units k ≡ mapping_unit p k
unfolding mapping_unit by_units.mapping_unit
same_unit p k = λ i. position (λ (u : Signature). same_sort k u.sort i) p.heads.units

unit_at : (n : ℕ) (o : Option ℕ) → is_unit n o ≡ true → o ≡ Some n
unit_at n None h = absurd (cc)
unit_at n (Some k) h = ap Some (eqb-true k n h)

pub units_are : (p : ProgramTerm) (ms : List MappingNo) (ns : List ℕ) → are_units p ms ns ≡ true → units_of p ms ≡ ns
units_are p [] [] h = refl
units_are p [] (n ∷ ns) h = absurd (cc)
units_are p (k ∷ ks) [] h = absurd (cc)
units_are p (k ∷ ks) (n ∷ ns) h =
    ap (λ o. cons_option o (units_of p ks)) (unit_at n (mapping_unit p k.0) (and_left (is_unit n (mapping_unit p k.0)) (are_units p ks ns) h))
    ∙ ap (λ xs. n ∷ xs) (units_are p ks ns (and_right (is_unit n (mapping_unit p k.0)) (are_units p ks ns) h))

-- there are more mappings than units
pub none_left : (p : ProgramTerm) (ms : List MappingNo) (ns : List ℕ) (i : ℕ) → i < length ms → length ns < 1 → false ≡ are_units p (drop i ms) ns
none_left p ms (n ∷ ns) i more few = absurd (omega (arith, few))
none_left p [] [] i more few = absurd (omega (arith, more))
none_left p (k ∷ ks) [] zero more few = refl
none_left p (k ∷ ks) [] (suc i) more few = none_left p ks [] i (omega (arith, more)) few

-- a unit, if there is one, and those that come after it
as_option : (o : Option ℕ) (xs : List ℕ) → as_list o ++ xs ≡ cons_option o xs
as_option None xs = refl
as_option (Some n) xs = refl

pub put_on : (before : List ℕ) (o : Option ℕ) (xs : List ℕ) → (before ++ as_list o) ++ xs ≡ before ++ cons_option o xs
put_on before o xs = append_assoc before (as_list o) xs ∙ ap (λ ys. before ++ ys) (as_option o xs)

alone_of : (o : Option ℕ) → as_list o ≡ cons_option o []
alone_of None = refl
alone_of (Some n) = refl

pub one_unit : (p : ProgramTerm) (k : MappingNo) → as_list (mapping_unit p k.0) ≡ units_of p (k ∷ [])
one_unit p k = alone_of (mapping_unit p k.0)

pub free_is : (p : ProgramTerm) (strict : Bool) (ns : List ℕ) → free_at p strict (single ns) ≡ if_free p strict ns
free_is p strict [] = refl
free_is p strict (n ∷ []) = refl
free_is p strict (n ∷ k ∷ ns) = refl
