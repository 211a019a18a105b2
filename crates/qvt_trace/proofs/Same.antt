-- Arguments, ends and keys that are the same.
use Rattle.std.proofs.Common.{◌≡◌, ℕ, true, ◌&&◌, List, [], ◌∷◌, Option, Some, None, refl, ap, sym, true≢false}
use Rattle.std.specs.Cmp.{first_so, second_so}
use Rattle.std.specs.Cmp.Lexicographic.{pointwise}
use Rattle.std.specs.Ordering.{is_eq}
use Rattle.std.specs.declared.cmp.Ordering.{Ordering}
use Rattle.std.specs.declared.cmp.Ordering.TheVariants.{Less, Equal, Greater}
use Rattle.qvt_base.specs.declared.numbers.Oid.{Oid}
use Rattle.qvt_value.specs.declared.value.Value.{Value}
use Rattle.qvt_value.specs.contracts.value.ValuePartialEq.TheImpl as equality
use Rattle.qvt_value.specs.Kept.{is_same}
use Rattle.qvt_value.specs.Order.{order_of}
use Rattle.qvt_value.proofs.OrderOfValues.{alike, exact}
use Rattle.std.proofs.lemmas.Bool.{eqb-true}
use Rattle.qvt_run_rules.specs.Trace.{same_end, same_object, same_values}
use Rattle.qvt_trace.specs.Indexed.{is_end}

-- the derived test of equality says of arguments what the order of values does
pub values_alike : (vs ws : List Value) → pointwise equality.ghosts.eq vs ws ≡ same_values vs ws
values_alike [] [] = refl
values_alike [] (w ∷ ws) = refl
values_alike (v ∷ vs) [] = refl
values_alike (v ∷ vs) (w ∷ ws) = λ i. alike v w i && values_alike vs ws i

pub ends_alike : (a b : Option Oid) → is_end a b ≡ same_end a b
ends_alike None None = refl
ends_alike None (Some b) = refl
ends_alike (Some a) None = refl
ends_alike (Some a) (Some b) = refl

same_is : (a b : Oid) → same_object a b ≡ true → a ≡ b
same_is a b h = ap (λ (n : ℕ). record { 0 = n }) (eqb-true a.0 b.0 h)

pub end_is : (a b : Option Oid) → same_end a b ≡ true → a ≡ b
end_is None None h = refl
end_is None (Some b) h = absurd (true≢false (sym h))
end_is (Some a) None h = absurd (true≢false (sym h))
end_is (Some a) (Some b) h = ap Some (same_is a b h)

value_is : (v w : Value) → is_same order_of v w ≡ true → v ≡ w
value_is v w h = exact v w (by (order_of v w) h)
  where
    by : (o : Ordering) → is_eq o ≡ true → o ≡ Equal
    by Less h = absurd (true≢false (sym h))
    by Equal h = refl
    by Greater h = absurd (true≢false (sym h))

pub values_are : (vs ws : List Value) → same_values vs ws ≡ true → vs ≡ ws
values_are [] [] h = refl
values_are [] (w ∷ ws) h = absurd (true≢false (sym h))
values_are (v ∷ vs) [] h = absurd (true≢false (sym h))
values_are (v ∷ vs) (w ∷ ws) h = λ i. value_is v w (first_so (is_same order_of v w) (same_values vs ws) h) i ∷ values_are vs ws (second_so (is_same order_of v w) (same_values vs ws) h) i
