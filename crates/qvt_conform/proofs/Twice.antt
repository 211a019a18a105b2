-- What counts of contents tell.
use Rattle.std.proofs.Common.{◌≡◌, ◌∙◌, ℕ, ◌<◌, List, length, ap, arith}
use Rattle.std.specs.Prelude.{slice_index_or, nat_lt, min}
use Rattle.std.proofs.lemmas.Bool.{lt-ltb, ltb-true}
use Rattle.qvt_cycle.proofs.Tests.{same_test}
use Rattle.qvt_cycle.specs.Successors.{how_often_in}
use Rattle.qvt_cycle.proofs.Falling.{lists_tell, lists-long}
use Rattle.qvt_conform.specs.Contained.{IsContainment}
use Rattle.qvt_conform.specs.declared.containment.Containment.{Containment}

pub counts_long : (lists : List (List ℕ)) (c : Containment) → IsContainment lists c → length c.counts.items ≡ length lists
counts_long lists c h = ap length h.counts ∙ lists-long lists

two_above : (a n : ℕ) → a ≡ min 2 n → nat_lt 1 a ≡ nat_lt 1 n
two_above a n e = same_test _ _
    (λ h. let lt = ltb-true _ _ h in lt-ltb 1 n (omega (arith, e, lt)))
    (λ h. let lt = ltb-true _ _ h in lt-ltb 1 a (omega (arith, e, lt)))

pub counts_above : (lists : List (List ℕ)) (c : Containment) (y : ℕ) → IsContainment lists c → y < length lists → nat_lt 1 (slice_index_or c.counts.items y 0) ≡ nat_lt 1 (how_often_in lists y)
counts_above lists c y h lt = two_above _ _ (ap (λ xs. slice_index_or xs y 0) h.counts ∙ lists_tell lists y lt)
