use Rattle.std.proofs.Common.{◌≡◌, ◌∙◌, ℕ, suc, ◌+◌, ◌-◌, ◌<◌, List, [], ◌∷◌, ◌++◌, ap, subst, sym, arith, append_assoc}
use Rattle.qvt_base.specs.declared.numbers.FeatureNo.{FeatureNo}
use Rattle.qvt_metamodel.specs.Added.{numbers_from}
use Rattle.qvt_metamodel.proofs.numbering.numbers_from.Goals as goal

step : (front : List FeatureNo) (n last : ℕ) (total : List FeatureNo) → n < last → front ++ numbers_from n (last - n) ≡ total
    → (front ++ record { 0 = n } ∷ []) ++ numbers_from (n + 1) (last - (n + 1)) ≡ total
step front n last total lt h =
    let one : suc (last - (n + 1)) ≡ last - n = omega arith in
    append_assoc front _ _ ∙ ap (λ k. front ++ numbers_from n k) one ∙ h

pub loop-number-preserved : goal.loop-number-preserved
loop-number-preserved c =
    subst (λ (ns : List FeatureNo). ns ++ numbers_from (c.loop-number.number + 1) (c.args.first + c.args.count - (c.loop-number.number + 1)) ≡ numbers_from c.args.first (c.args.first + c.args.count - c.args.first))
    (sym c.in_ok-push.ensures.ok) (step _ _ _ _ c.loop-number-test.true c.loop-number.invariant)
