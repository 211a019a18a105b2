-- Where no two units are rivals of each other with a class below both, those above a class stand one below another, and the least of
-- them is its single choice.
use Rattle.std.proofs.Common.{◌≡◌, ◌∙◌, ℕ, ◌<◌, ◌≤◌, ◌≢◌, eqb, List, [], ◌∷◌, length, Bool, true, false, ◌&&◌, not, ◌⊎◌, inl, inr, refl, sym, ap, subst, arith}
use Rattle.std.specs.Prelude.{nat_lt}
use Rattle.std.specs.List.{list_any, range_with_len, IsDistinct}
use Rattle.std.proofs.lemmas.Bool.{eq-eqb, eqb-true, lt-ltb, ltb-true, ltb-false}
use Rattle.qvt_metas.specs.Metamodels.{Metamodels, class_at}
use Rattle.qvt_metamodel.proofs.Bools.{and_both, and_left, and_right, and_no, not_true, clash}
use Rattle.qvt_types_units.specs.declared.signature.Signature.{Signature}
use Rattle.qvt_types_units.specs.Choice.{is_context_above, context_at, candidates}
use Rattle.qvt_types_units.specs.Overrides.{is_strictly_below}
use Rattle.qvt_types_choices.specs.Least.{stands_below, least_of}
use Rattle.qvt_types_choices.specs.Only.{is_rival, is_only, are_rivals, is_contested}
use Rattle.qvt_types_choices.specs.Stuck.{is_stuck}
use Rattle.qvt_types_choices.proofs.ByClass.{Antisymmetric, in_filter, into_filter}
use Rattle.qvt_types_choices.proofs.Lowest.{Transitive, In, least_in, least_of_chain}
use Rattle.qvt_types_choices.proofs.Sets.{in_range}
use Rattle.qvt_types_choices.proofs.Singly.{stuck_only, below_by, strict_by, strict_apart, untrue}
use Rattle.qvt_types_choices.proofs.Somewhere.{some_is, is_some_of}

module _ (m : Metamodels) (us : List Signature) (ns : List ℕ) (none : list_any (λ n. list_any (is_contested m us n) ns) ns ≡ false) (t : Transitive m) (a : Antisymmetric m) where
  abbrev over : ℕ → ℕ → Bool
  over n d = is_context_above m (context_at us n) d

  abbrev rival_over : ℕ → ℕ → ℕ → Bool
  rival_over d n k = is_rival m us n k && over k d

  module _ (d : ℕ) (low : d < length m.classes) where
    not_both : (n k : ℕ) → n < k → In n ns → In k ns → over n d ≡ true → over k d ≡ true → is_rival m us n k ≡ true → is_rival m us k n ≡ true → ⊥
    not_both n k before i j up up_too rival back = clash
        (is_some_of (λ x. list_any (is_contested m us x) ns) n ns i (is_some_of (is_contested m us n) k ns j
        (and_both (are_rivals m us n k) (list_any (λ e. over n e && over k e) (range_with_len 0 (length m.classes)))
        (and_both (nat_lt n k) (is_rival m us n k && is_rival m us k n) (lt-ltb n k before) (and_both (is_rival m us n k) (is_rival m us k n) rival back))
        (is_some_of (λ e. over n e && over k e) d (range_with_len 0 (length m.classes)) (in_range (length m.classes) d low) (and_both (over n d) (over k d) up up_too)))))
        none

    apart : (n k : ℕ) → is_rival m us n k ≡ true → n ≢ k
    apart n k rival same = clash (eq-eqb n k same) (untrue (eqb n k) (and_left (not (eqb n k)) (not (is_strictly_below m (context_at us n) (context_at us k))) rival))

    -- of two units above the class one is no rival of the other
    other_no_rival : (n k : ℕ) → In n ns → In k ns → over n d ≡ true → over k d ≡ true → is_rival m us n k ≡ true → is_rival m us k n ≡ false
    other_no_rival n k i j up up_too rival = not_true (is_rival m us k n) (λ back. by back (nat_lt n k) refl)
      where
        by : is_rival m us k n ≡ true → (b : Bool) → nat_lt n k ≡ b → ⊥
        by back true e = not_both n k (ltb-true n k e) i j up up_too rival back
        by back false e = not_both k n (let least : k ≤ n = ltb-false n k e in let differ : n ≢ k = apart n k rival in omega (arith, least, differ)) j i up_too up back rival

    related : (n k : ℕ) → In n ns → In k ns → over n d ≡ true → over k d ≡ true → (stands_below m us n k ≡ true) ⊎ (stands_below m us k n ≡ true)
    related n k i j up up_too = by (is_rival m us n k) refl
      where
        by : (b : Bool) → is_rival m us n k ≡ b → (stands_below m us n k ≡ true) ⊎ (stands_below m us k n ≡ true)
        by true e = inr (below_by m us a ns d k n (other_no_rival n k i j up up_too e) up)
        by false e = inl (below_by m us a ns d n k e up_too)

    -- one that is below each other above the class is strictly below them
    only_least : (n : ℕ) → In n ns → over n d ≡ true → ((k : ℕ) → In k ns → over k d ≡ true → stands_below m us n k ≡ true) → is_only m us ns n d ≡ true
    only_least n i up below = and_both (over n d) (not (list_any (rival_over d n) ns)) up
        (ap not (not_true (list_any (rival_over d n) ns) (λ h. some_is (rival_over d n) ns h none_over)))
      where
        none_over : (k : ℕ) → In k ns → rival_over d n k ≡ true → ⊥
        none_over k j both = strict_apart m a (context_at us k) (context_at us n)
            (strict_by m us a ns d k n (other_no_rival n k i j up up_too rival) (not_true (eqb k n) (λ e. apart n k rival (sym (eqb-true k n e)))))
            (below k j up_too)
          where
            rival : is_rival m us n k ≡ true
            rival = and_left (is_rival m us n k) (over k d) both

            up_too : over k d ≡ true
            up_too = and_right (is_rival m us n k) (over k d) both

    some_only : (n : ℕ) → In n ns → over n d ≡ true → list_any (λ k. is_only m us ns k d) ns ≡ true
    some_only n i up = by (candidates m us ns d) refl (into_filter (λ k. over k d) n ns i up)
      where
        by : (cs : List ℕ) → candidates m us ns d ≡ cs → In n cs → list_any (λ k. is_only m us ns k d) ns ≡ true
        by [] e j = absurd j
        by (c ∷ cs) e j = is_some_of (λ k. is_only m us ns k d) least ns least_there.0 (only_least least least_there.0 least_there.1
            (λ k l up_too. least_of_chain m us t c cs
            (λ x y p q. related x y (there x p).0 (there y q).0 (there x p).1 (there y q).1) k (subst (In k) e (into_filter (λ z. over z d) k ns l up_too))))
          where
            there : (x : ℕ) → In x (c ∷ cs) → In x ns × (over x d ≡ true)
            there x p = in_filter (λ z. over z d) x ns (subst (In x) (sym e) p)

            least : ℕ
            least = least_of m us c cs

            least_there : In least ns × (over least d ≡ true)
            least_there = there least (least_in m us t c cs)

  pub none_stuck : IsDistinct eqb ns → (d : ℕ) → d < length m.classes → is_stuck m us ns d ≡ false
  none_stuck distinct d low = stuck_only m us a ns d distinct ∙ and_no (not (class_at m d).is_abstract) (some && not singles) (by some refl)
    where
      some : Bool
      some = list_any (λ n. over n d) ns

      singles : Bool
      singles = list_any (λ n. is_only m us ns n d) ns

      by : (b : Bool) → some ≡ b → (some && not singles) ≡ false
      by false e = ap (λ b. b && not singles) e
      by true e = some_is (λ n. over n d) ns e (λ n i up. and_no some (not singles) (ap not (some_only d low n i up)))
