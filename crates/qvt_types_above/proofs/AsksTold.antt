-- A unit that is told to ask all that is told of others does.
use Rattle.std.proofs.Common.{◌≡◌, ℕ, ◌+◌, ◌==◌, List, [], ◌∷◌, length, set, get_or, Bool, true, false, ◌&&◌, Option, Some, None, IfSome, inl, inr, refl, sym, subst, arith}
use Rattle.std.proofs.lemmas.Bool.{eq-eqb, eqb-true}
use Rattle.std.proofs.lemmas.List.{length-set, get_or-set_same, get_or-set_other, get_or_past}
use Rattle.qvt_base.specs.declared.numbers.ClassNo.{ClassNo}
use Rattle.qvt_metas.specs.Metamodels.{Metamodels}
use Rattle.qvt_metamodel.proofs.Bools.{and_left, and_right, or_cases, clash}
use Rattle.qvt_metamodel.proofs.Halves.{Half, old, new, half}
use Rattle.qvt_types_groups.specs.declared.signature.Signature.{Signature}
use Rattle.qvt_types_groups.proofs.Lowest.{Transitive}
use Rattle.qvt_types_above.specs.declared.asks.Guard.{Guard}
use Rattle.qvt_types_above.specs.Covers.{covers_at}
use Rattle.qvt_types_above.specs.Bounds.{are_bounded}
use Rattle.qvt_types_above.specs.Asks.{Guards, no_guard, guard_at, asks_unit, asks_class, asks_guard, asks_each}
use Rattle.qvt_types_above.specs.Tells.{AsksAll, IsGuard, AreGuarded}
use Rattle.qvt_types_above.proofs.SameShapes.{Law}
use Rattle.qvt_types_above.proofs.Tellings.{through}
use Rattle.qvt_types_above.proofs.BoundsAsk.{bound_asks}

module _ (m : Metamodels) (us : List Signature) where
  module _ (law : Law) (t : Transitive m) (n : ℕ) where
    pub each_asks : (ks : List ℕ) → asks_each m us n ks ≡ true → AsksAll m us n ks
    each_asks [] e x s = absurd s
    each_asks (k ∷ ks) e x s = elim s [
      | inl a ↦ through m us law t n k x (and_left (covers_at m us n k) (asks_each m us n ks) e) a
      | inr r ↦ each_asks ks (and_right (covers_at m us n k) (asks_each m us n ks) e) x r
    ]

    pub one_asks : (k : ℕ) → covers_at m us n k ≡ true → AsksAll m us n (k ∷ [])
    one_asks k e x s = elim s [ inl a ↦ through m us law t n k x e a | inr r ↦ absurd r ]

    pub two_ask : (i k : ℕ) → (covers_at m us n i && covers_at m us n k) ≡ true → AsksAll m us n (i ∷ k ∷ [])
    two_ask i k e x s = elim s [
      | inl a ↦ through m us law t n i x (and_left (covers_at m us n i) (covers_at m us n k) e) a
      | inr r ↦ one_asks k (and_right (covers_at m us n i) (covers_at m us n k) e) x r
    ]

    unit_asks : (ks : List ℕ) (o : Option ℕ) → IfSome o (λ g. AsksAll m us g ks) → asks_unit m us n o ≡ true → AsksAll m us n ks
    unit_asks ks None is e x s = absurd (cc)
    unit_asks ks (Some g) is e x s = through m us law t n g x e (is x s)

    class_asks : (ks : List ℕ) (o : Option ClassNo) → IfSome o (λ c. are_bounded m us ks c.0 ≡ true) → asks_class m us n ks o ≡ true → AsksAll m us n ks
    class_asks ks None is e x s = absurd (cc)
    class_asks ks (Some c) is e x s = bound_asks law m t us n ks c.0 is e x s

    pub guard_asks : (ks : List ℕ) (g : Guard) → IsGuard m us ks g → asks_guard m us n ks g ≡ true → AsksAll m us n ks
    guard_asks ks g is e = elim (or_cases (asks_unit m us n g.unit) (asks_class m us n ks g.class) e) [
      | inl unit ↦ unit_asks ks g.unit is.unit unit
      | inr class ↦ class_asks ks g.class is.class class
    ]

  pub none_guards : (ks : List ℕ) → IsGuard m us ks no_guard
  none_guards ks = record { unit = tt; class = tt }

  -- a list has another guard
  pub put_stay : (ls : List (List ℕ)) (guards : Guards) → AreGuarded m us ls guards → (s : ℕ) (g : Guard) → IsGuard m us (get_or ls s []) g → AreGuarded m us ls (set guards s g)
  put_stay ls guards are s g is r = by (s == r) refl
    where
      here : (s : ℕ) → Half (length guards) s → IsGuard m us (get_or ls s []) g → IsGuard m us (get_or ls s []) (guard_at (set guards s g) s)
      here _ (old s low) is = subst (IsGuard m us (get_or ls s [])) (sym (get_or-set_same guards s g no_guard low)) is
      here _ (new k) is = subst (IsGuard m us (get_or ls (length guards + k) []))
          (sym (get_or_past (set guards (length guards + k) g) (length guards + k) no_guard (omega (arith, length-set guards (length guards + k) g)))) (none_guards (get_or ls (length guards + k) []))

      by : (b : Bool) → (s == r) ≡ b → IsGuard m us (get_or ls r []) (guard_at (set guards s g) r)
      by true f = subst (λ y. IsGuard m us (get_or ls y []) (guard_at (set guards s g) y)) (eqb-true s r f) (here s (half (length guards) s) is)
      by false f = subst (IsGuard m us (get_or ls r [])) (sym (get_or-set_other guards s r g no_guard (λ same. clash (eq-eqb s r (sym same)) f))) (are r)
