-- Units that take and answer the same: an override fits both or none.
use Rattle.std.proofs.Common.{◌≡◌, List, [], ◌∷◌, length, true, ◌&&◌, ◌||◌, Option, Some, None, refl, ap, arith}
use Rattle.std.specs.Prelude.{◌==◌}
use Rattle.std.proofs.lemmas.Bool.{eqb-true}
use Rattle.qvt_base.specs.declared.numbers.MappingNo.{MappingNo}
use Rattle.qvt_metas.specs.Metamodels.{Metamodels}
use Rattle.qvt_metamodel.proofs.Bools.{and_left, and_right}
use Rattle.qvt_types_data.specs.Term.{same_type, ty_view}
use Rattle.qvt_types_data.specs.declared.ty.Ty.{Ty}
use Rattle.qvt_types_groups.specs.declared.signature.UnitSort.{UnitSort}
use Rattle.qvt_types_groups.specs.declared.signature.UnitSort.TheVariants as sort
use Rattle.qvt_types_groups.specs.declared.signature.Signature.{Signature}
use Rattle.qvt_types_groups.specs.Overrides.{are_unlike, params_differ, is_wider, is_misfit}
use Rattle.qvt_types_above.specs.Shapes.{same_sort, same_answer, all_same, same_types, same_shape}

-- types that are told to be the same are
abbrev pub Law : Type 0
Law = (t u : Ty) → same_type (ty_view t) (ty_view u) ≡ true → t ≡ u

answer_is : Law → (t u : Option Ty) → same_answer t u ≡ true → t ≡ u
answer_is law None None e = refl
answer_is law None (Some u) e = absurd (cc)
answer_is law (Some t) None e = absurd (cc)
answer_is law (Some t) (Some u) e = ap Some (law t u e)

all_are : Law → (ts us : List (Option Ty)) → length ts ≡ length us → all_same ts us ≡ true → ts ≡ us
all_are law [] [] l e = refl
all_are law [] (u ∷ us) l e = absurd (omega (arith, l))
all_are law (t ∷ ts) [] l e = absurd (omega (arith, l))
all_are law (t ∷ ts) (u ∷ us) l e = λ j.
    answer_is law t u (and_left (same_answer t u) (all_same ts us) e) j
    ∷ all_are law ts us (let shorter : length ts ≡ length us = omega (arith, l) in shorter) (and_right (same_answer t u) (all_same ts us) e) j

pub types_are : Law → (ts us : List (Option Ty)) → same_types ts us ≡ true → ts ≡ us
types_are law ts us e = all_are law ts us (eqb-true (length ts) (length us) (and_left (length ts == length us) (all_same ts us) e)) (and_right (length ts == length us) (all_same ts us) e)

unlike_mappings : (w : UnitSort) (n k : MappingNo) → are_unlike w (sort.Mapping n) ≡ are_unlike w (sort.Mapping k)
unlike_mappings sort.Class n k = refl
unlike_mappings sort.Main n k = refl
unlike_mappings sort.Helper n k = refl
unlike_mappings sort.Query n k = refl
unlike_mappings sort.Constructor n k = refl
unlike_mappings (sort.Mapping m) n k = refl

pub unlike_is : (w s r : UnitSort) → same_sort s r ≡ true → are_unlike w s ≡ are_unlike w r
unlike_is w sort.Class r e = absurd (cc)
unlike_is w sort.Main r e = absurd (cc)
unlike_is w sort.Constructor r e = absurd (cc)
unlike_is w sort.Helper sort.Helper e = refl
unlike_is w sort.Helper sort.Class e = absurd (cc)
unlike_is w sort.Helper sort.Main e = absurd (cc)
unlike_is w sort.Helper sort.Query e = absurd (cc)
unlike_is w sort.Helper sort.Constructor e = absurd (cc)
unlike_is w sort.Helper (sort.Mapping n) e = absurd (cc)
unlike_is w sort.Query sort.Query e = refl
unlike_is w sort.Query sort.Class e = absurd (cc)
unlike_is w sort.Query sort.Main e = absurd (cc)
unlike_is w sort.Query sort.Helper e = absurd (cc)
unlike_is w sort.Query sort.Constructor e = absurd (cc)
unlike_is w sort.Query (sort.Mapping n) e = absurd (cc)
unlike_is w (sort.Mapping n) (sort.Mapping k) e = unlike_mappings w n k
unlike_is w (sort.Mapping n) sort.Class e = absurd (cc)
unlike_is w (sort.Mapping n) sort.Main e = absurd (cc)
unlike_is w (sort.Mapping n) sort.Helper e = absurd (cc)
unlike_is w (sort.Mapping n) sort.Query e = absurd (cc)
unlike_is w (sort.Mapping n) sort.Constructor e = absurd (cc)

pub shape_is : Law → (m : Metamodels) (w u v : Signature) → same_shape u v ≡ true → is_misfit m w u ≡ is_misfit m w v
unfolding same_shape is_misfit
shape_is law m w u v e =
    let sorts : same_sort u.sort v.sort ≡ true = and_left (same_sort u.sort v.sort) _ e in
    let after_sorts : (same_types u.params v.params && same_answer u.answer v.answer) ≡ true = and_right (same_sort u.sort v.sort) _ e in
    let params : u.params ≡ v.params = types_are law u.params v.params (and_left (same_types u.params v.params) (same_answer u.answer v.answer) after_sorts) in
    let answer : u.answer ≡ v.answer = answer_is law u.answer v.answer (and_right (same_types u.params v.params) (same_answer u.answer v.answer) after_sorts) in
    let unlike : are_unlike w.sort u.sort ≡ are_unlike w.sort v.sort = unlike_is w.sort u.sort v.sort sorts in
    λ i. params_differ w.params (params i) || (is_wider m w.answer (answer i) || unlike i)
