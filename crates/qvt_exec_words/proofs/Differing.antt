-- No value stands in a list twice exactly where each is counted once.
use Rattle.std.proofs.Common.{◌≡◌, ◌≢◌, ◌∙◌, ℕ, zero, suc, ◌+◌, ◌<◌, Bool, true, false, ◌&&◌, ◌||◌, not, cond, refl, sym, ap, List, [], ◌∷◌, arith}
use Rattle.std.specs.Prelude.{◌==◌}
use Rattle.std.specs.List.{list_all}
use Rattle.std.specs.Ordering.{is_eq, ordering_reverse}
use Rattle.std.specs.declared.cmp.Ordering.{Ordering}
use Rattle.std.specs.declared.cmp.Ordering.TheVariants.{Less, Equal, Greater}
use Rattle.std.proofs.lemmas.Bool.Decides.{nat_tests}
use Rattle.qvt_value.specs.declared.value.Value.{Value}
use Rattle.qvt_value.specs.Order.{order_of}
use Rattle.qvt_value.proofs.KeptItems as items
use Rattle.qvt_value.proofs.OrderOfValues.{total, exact, itself}
use Rattle.qvt_ocl_words.specs.Lists.{same, has, count}
use Rattle.qvt_repeats.specs.Repeats.{repeats_by}
use Rattle.qvt_run_rules.specs.Iterators.{all_differ}

abbrev one : Value → Value → ℕ
one = items.one order_of total exact

counted : (z v : Value) (vs : List Value) → count z (v ∷ vs) ≡ one z v + count z vs
counted z v vs = items.count_is order_of total exact z (v ∷ vs) ∙ ap (λ n. one z v + n) (sym (items.count_is order_of total exact z vs))

flip : (v w : Value) → same v w ≡ same w v
flip v w = ap is_eq (total.antisymm v w) ∙ by (order_of w v)
  where
    by : (r : Ordering) → is_eq (ordering_reverse r) ≡ is_eq r
    by Less = refl
    by Equal = refl
    by Greater = refl

one_itself : (v : Value) → one v v ≡ 1
one_itself v = ap (λ r. cond (is_eq r) 1 0) (itself v)

apart : (z v : Value) → same z v ≡ false → one z v ≡ 0
apart z v h = ap (λ b. cond b 1 0) h

alike : (z v : Value) → same z v ≡ true → one z v ≡ 1
alike z v h = ap (λ b. cond b 1 0) h

none_of : (v : Value) (vs : List Value) → has vs v ≡ false → count v vs ≡ 0
none_of v [] h = refl
none_of v (w ∷ ws) h = by (same v w) refl h (none_of v ws)
  where
    by : (b : Bool) → same v w ≡ b → (b || has ws v) ≡ false → (has ws v ≡ false → count v ws ≡ 0) → count v (w ∷ ws) ≡ 0
    by true e g k = cc
    by false e g k = omega (arith, counted v w ws, apart v w e, k g)

some_of : (v : Value) (vs : List Value) → has vs v ≡ true → 0 < count v vs
some_of v [] h = cc
some_of v (w ∷ ws) h = by (same v w) refl h (some_of v ws)
  where
    by : (b : Bool) → same v w ≡ b → (b || has ws v) ≡ true → (has ws v ≡ true → 0 < count v ws) → 0 < count v (w ∷ ws)
    by true e g k = omega (arith, counted v w ws, alike v w e)
    by false e g k = omega (arith, counted v w ws, k g)

abbrev Once : List Value → Value → Bool
Once vs w = count w vs == 1

-- a value in front that is not among some values says nothing of how often these stand there
passed : (v : Value) (vs us : List Value) → has us v ≡ false → list_all (Once (v ∷ vs)) us ≡ list_all (Once vs) us
passed v vs [] h = refl
passed v vs (u ∷ us) h = by (same v u) refl h (passed v vs us)
  where
    by : (b : Bool) → same v u ≡ b → (b || has us v) ≡ false → (has us v ≡ false → list_all (Once (v ∷ vs)) us ≡ list_all (Once vs) us) → list_all (Once (v ∷ vs)) (u ∷ us) ≡ list_all (Once vs) (u ∷ us)
    by true e g k = cc
    by false e g k =
        let n : count u (v ∷ vs) ≡ count u vs = omega (arith, counted u v vs, apart u v (flip u v ∙ e)) in
        λ i. (n i == 1) && k g i

is_one : (n : ℕ) → n ≡ 1 → (n == 1) ≡ true
is_one n h = grind (arith, nat_tests)

not_one : (n : ℕ) → 1 < n → (n == 1) ≡ false
not_one n h = grind (arith, nat_tests)

pub each_once : (vs : List Value) → all_differ vs ≡ list_all (λ v. count v vs == 1) vs
each_once [] = refl
each_once (v ∷ vs) = by (has vs v) refl (each_once vs)
  where
    by : (b : Bool) → has vs v ≡ b → all_differ vs ≡ list_all (Once vs) vs → not (b || repeats_by same vs) ≡ list_all (Once (v ∷ vs)) (v ∷ vs)
    by true e k = sym (ap (λ b. b && list_all (Once (v ∷ vs)) vs) (not_one (count v (v ∷ vs)) (omega (arith, counted v v vs, one_itself v, some_of v vs e))))
    by false e k =
        k ∙ sym (passed v vs vs e)
        ∙ sym (ap (λ b. b && list_all (Once (v ∷ vs)) vs) (is_one (count v (v ∷ vs)) (omega (arith, counted v v vs, one_itself v, none_of v vs e))))

-- one that is counted otherwise
pub counted_else : (vs : List Value) (v : Value) (n : ℕ) → n ≡ count v vs → n ≢ 1 → (count v vs == 1) ≡ false
counted_else vs v n e h = grind (arith, nat_tests)
