use Rattle.std.proofs.Common.{◌≡◌, ◌∙◌, ◌+◌, ◌≤◌, ℕ, List, length, take, get_or, arith, ap}
use Rattle.qvt_metas.specs.Added.{feature_count}
use Rattle.qvt_meta.specs.Places.{firsts_of}
use Rattle.qvt_metamodel.specs.declared.declared.DeclaredClass.{DeclaredClass}
use Rattle.qvt_meta.proofs.Counts.{count_within}
use Rattle.qvt_meta.proofs.Firsts.{firsts_of-at}
use Rattle.qvt_meta.proofs.adding.feature_number.Goals as goal

at_place : (xs : List ℕ) (ks : List DeclaredClass) (i r : ℕ) → xs ≡ firsts_of 0 ks → i ≤ length ks → r ≡ get_or xs i r → r ≡ feature_count (take i ks)
at_place xs ks i r is live here = here ∙ ap (λ ys. get_or ys i r) is ∙ firsts_of-at 0 ks i r live ∙ omega arith

pub overflow_add-result : goal.overflow_add-result
overflow_add-result c =
    let at : c.index.result.now ≡ feature_count (take c.args.class c.args.classes.now) = at_place _ _ _ _ c.requires.places.firsts c.requires.live c.index.ensures in
    omega (arith, at, count_within c.args.classes.now c.args.class, c.own_place-place.ensures.bound, c.requires.places.few_features)

pub overflow_add-result-2 : goal.overflow_add-result-2
overflow_add-result-2 c =
    let at : c.index.result.now ≡ feature_count (take c.args.class c.args.classes.now) = at_place _ _ _ _ c.requires.places.firsts c.requires.live c.index.ensures in
    omega (arith, at, count_within c.args.classes.now c.args.class, c.own_place-place.ensures.bound, c.requires.places.few_features)

pub overflow_cast-result : goal.overflow_cast-result
overflow_cast-result c = omega (arith, count_within c.args.classes.now c.args.class, c.own_place-place.ensures.bound, c.requires.places.few_features)

pub returns : goal.returns
returns c =
    let at : c.index.result.now ≡ feature_count (take c.args.class c.args.classes.now) = at_place _ _ _ _ c.requires.places.firsts c.requires.live c.index.ensures in
    λ i. record { 0 = c.args.begin.feature + (at i + c.own_place-place.ensures.place i) }
