-- What few units tell of others is so.
use Rattle.std.proofs.Common.{◌≡◌, ◌∙◌, ℕ, zero, suc, ◌+◌, ◌==◌, List, [], ◌∷◌, ◌++◌, length, set, get_or, replicate, Bool, true, false, ◌||◌, ◌⊎◌, inl, inr, refl, sym, ap, subst, arith}
use Rattle.std.specs.Prelude.{if◌then◌else◌}
use Rattle.std.proofs.lemmas.Bool.{eq-eqb, eqb-true}
use Rattle.std.proofs.lemmas.List.{length-set, get_or-set_same, get_or-set_other, get_or_past}
use Rattle.qvt_metas.specs.Metamodels.{Metamodels}
use Rattle.qvt_metamodel.proofs.Bools.{or_cases, clash}
use Rattle.qvt_metamodel.proofs.Halves.{Half, old, new, half, old-at}
use Rattle.qvt_types_groups.specs.declared.signature.Signature.{Signature}
use Rattle.qvt_types_groups.specs.Numbers.{unit_at}
use Rattle.qvt_types_groups.specs.Overrides.{is_misfit}
use Rattle.qvt_types_groups.proofs.Lowest.{Transitive}
use Rattle.qvt_types_above.specs.declared.above.Above.{Above}
use Rattle.qvt_types_above.specs.declared.above.Above.TheVariants.{Untold, Nothing, Least, Both, Listed}
use Rattle.qvt_types_above.specs.Covers.{covers_at}
use Rattle.qvt_types_above.specs.Above.{with_one, with_list, combined, above_at}
use Rattle.qvt_types_above.specs.Tells.{Asks, SomeAsks, Tells}
use Rattle.qvt_types_above.proofs.SameShapes.{Law}
use Rattle.qvt_types_above.proofs.Covered.{asks}

-- what is told of each class alike, and of those that are not there
pub of_each : (Q : Above → Type 0) (s : Above) (count c : ℕ) → Q s → Q Untold → Q (above_at (replicate count s) c)
of_each Q s zero c here past = past
of_each Q s (suc count) zero here past = here
of_each Q s (suc count) (suc c) here past = of_each Q s count c here past

module _ (m : Metamodels) (us : List Signature) where
  module _ (ls : List (List ℕ)) where
    abbrev Told : (ℕ → Type 0) → Above → Type 0
    Told P a = Tells m us ls P a

    -- less is asked for
    pub fewer : (P Q : ℕ → Type 0) (a : Above) → ((n : ℕ) → Q n → P n) → Told P a → Told Q a
    fewer P Q Untold f h = tt
    fewer P Q Nothing f h = λ n q. h n (f n q)
    fewer P Q (Least k) f h = λ n q. h n (f n q)
    fewer P Q (Both i k) f h = λ n q. h n (f n q)
    fewer P Q (Listed s) f h = λ n q. h n (f n q)

    -- one class is told of
    pub told_set : (P : ℕ → ℕ → Type 0) (row : List Above) (d : ℕ) (a : Above) → ((c : ℕ) → (d ≡ c → ⊥) → Told (P c) (above_at row c)) → Told (P d) a
        → (c : ℕ) → Told (P c) (above_at (set row d a) c)
    told_set P row d a others this c = by (d == c) refl
      where
        here : (c : ℕ) → Half (length row) c → Told (P c) a → Told (P c) (above_at (set row c a) c)
        here _ (old c low) h = subst (Told (P c)) (sym (get_or-set_same row c a Untold low)) h
        here _ (new k) h = subst (Told (P (length row + k)))
            (sym (get_or_past (set row (length row + k) a) (length row + k) Untold (omega (arith, length-set row (length row + k) a)))) tt

        by : (b : Bool) → (d == c) ≡ b → Told (P c) (above_at (set row d a) c)
        by true e = subst (λ x. Told (P c) (above_at (set row x a) c)) (sym (eqb-true d c e))
            (here c (half (length row) c) (subst (λ x. Told (P x) a) (eqb-true d c e) this))
        by false e = subst (Told (P c)) (sym (get_or-set_other row d c a Untold (λ same. clash (eq-eqb d c (sym same)) e)))
            (others c (λ same. clash (eq-eqb d c same) e))

  -- a list more
  more_there : (ls : List (List ℕ)) (l : List ℕ) (s n : ℕ) → SomeAsks m us (get_or ls s []) n → SomeAsks m us (get_or (ls ++ l ∷ []) s []) n
  more_there ls l s n = by s (half (length ls) s)
    where
      by : (s : ℕ) → Half (length ls) s → SomeAsks m us (get_or ls s []) n → SomeAsks m us (get_or (ls ++ l ∷ []) s []) n
      by _ (old s low) h = subst (λ ks. SomeAsks m us ks n) (sym (old-at ls (l ∷ []) s [] low)) h
      by _ (new k) h = absurd (subst (λ ks. SomeAsks m us ks n) (get_or_past ls (length ls + k) [] (omega arith)) h)

  pub grown : (ls : List (List ℕ)) (l : List ℕ) (P : ℕ → Type 0) (a : Above) → Tells m us ls P a → Tells m us (ls ++ l ∷ []) P a
  grown ls l P Untold h = tt
  grown ls l P Nothing h = h
  grown ls l P (Least k) h = h
  grown ls l P (Both i k) h = h
  grown ls l P (Listed s) h = λ n p. more_there ls l s n (h n p)

  -- what is told without lists is told by any
  pub by_any : (ls : List (List ℕ)) (P : ℕ → Type 0) (a : Above) → Tells m us [] P a → Tells m us ls P a
  by_any ls P Untold h = tt
  by_any ls P Nothing h = h
  by_any ls P (Least k) h = h
  by_any ls P (Both i k) h = h
  by_any ls P (Listed s) h = λ n p. absurd (subst (λ ks. SomeAsks m us ks n) (get_or_past [] s [] (omega arith)) (h n p))

  module _ (law : Law) (t : Transitive m) where
    -- what asks all that a unit asks that asks all that another asks
    pub through : (n k x : ℕ) → covers_at m us n k ≡ true → Asks m us k x → Asks m us n x
    through n k x e a = λ u w. asks law m t us n k e u (a u w)

    module _ (ls : List (List ℕ)) where
      one_more : (P Q : ℕ → Type 0) (a : Above) (n : ℕ) → Told ls P a → ((x : ℕ) → Q x → Asks m us n x) → Told ls (λ x. P x ⊎ Q x) (with_one m us a n)
      one_more P Q Untold n g h = tt
      one_more P Q Nothing n g h = λ x r. elim r [ inl p ↦ absurd (g x p) | inr q ↦ h x q ]
      one_more P Q (Listed s) n g h = tt
      one_more P Q (Least k) n g h = by (covers_at m us k n) refl (covers_at m us n k) refl
        where
          by : (b : Bool) → covers_at m us k n ≡ b → (c : Bool) → covers_at m us n k ≡ c → Told ls (λ x. P x ⊎ Q x) (if b then Least k else if c then Least n else Both k n)
          by true e c f = λ x r. elim r [ inl p ↦ g x p | inr q ↦ through k n x e (h x q) ]
          by false e true f = λ x r. elim r [ inl p ↦ through n k x f (g x p) | inr q ↦ h x q ]
          by false e false f = λ x r. elim r [ inl p ↦ inl (g x p) | inr q ↦ inr (h x q) ]
      one_more P Q (Both j k) n g h = by (covers_at m us j n || covers_at m us k n) refl (covers_at m us n j) refl (covers_at m us n k) refl
        where
          by : (b : Bool) → (covers_at m us j n || covers_at m us k n) ≡ b → (c : Bool) → covers_at m us n j ≡ c → (d : Bool) → covers_at m us n k ≡ d
              → Told ls (λ x. P x ⊎ Q x) (if b then Both j k else if c then (if d then Least n else Both n k) else if d then Both j n else Untold)
          by true e c f d z = λ x r. elim r [
            | inl p ↦ g x p
            | inr q ↦ elim (or_cases (covers_at m us j n) (covers_at m us k n) e) [ inl a ↦ inl (through j n x a (h x q)) | inr o ↦ inr (through k n x o (h x q)) ]
          ]
          by false e true f true z = λ x r. elim r [ inl p ↦ elim (g x p) [ inl a ↦ through n j x f a | inr o ↦ through n k x z o ] | inr q ↦ h x q ]
          by false e true f false z = λ x r. elim r [ inl p ↦ elim (g x p) [ inl a ↦ inl (through n j x f a) | inr o ↦ inr o ] | inr q ↦ inl (h x q) ]
          by false e false f true z = λ x r. elim r [ inl p ↦ elim (g x p) [ inl a ↦ inl a | inr o ↦ inr (through n k x z o) ] | inr q ↦ inr (h x q) ]
          by false e false f false z = tt

      list_more : (P Q : ℕ → Type 0) (a : Above) (s : ℕ) → Told ls P a → ((x : ℕ) → Q x → SomeAsks m us (get_or ls s []) x) → Told ls (λ x. P x ⊎ Q x) (with_list a s)
      list_more P Q Untold s g h = tt
      list_more P Q Nothing s g h = λ x r. elim r [ inl p ↦ absurd (g x p) | inr q ↦ h x q ]
      list_more P Q (Least k) s g h = tt
      list_more P Q (Both i k) s g h = tt
      list_more P Q (Listed r) s g h = by (r == s) refl
        where
          by : (b : Bool) → (r == s) ≡ b → Told ls (λ x. P x ⊎ Q x) (if b then Listed s else Untold)
          by true e = λ x o. elim o [ inl p ↦ subst (λ y. SomeAsks m us (get_or ls y []) x) (eqb-true r s e) (g x p) | inr q ↦ h x q ]
          by false e = tt

      pub both_tell : (P Q : ℕ → Type 0) (a b : Above) → Told ls P a → Told ls Q b → Told ls (λ n. P n ⊎ Q n) (combined m us a b)
      both_tell P Q a Untold g h = tt
      both_tell P Q a Nothing g h = fewer ls P (λ n. P n ⊎ Q n) a (λ n r. elim r [ inl p ↦ p | inr q ↦ absurd (h n q) ]) g
      both_tell P Q a (Least n) g h = one_more P Q a n g h
      both_tell P Q a (Listed s) g h = list_more P Q a s g h
      both_tell P Q a (Both i k) g h = fewer ls (λ n. (P n ⊎ Asks m us i n) ⊎ Asks m us k n) (λ n. P n ⊎ Q n) (with_one m us (with_one m us a i) k)
          (λ n r. elim r [ inl p ↦ inl (inl p) | inr q ↦ elim (h n q) [ inl x ↦ inl (inr x) | inr y ↦ inr y ] ])
          (one_more (λ n. P n ⊎ Asks m us i n) (λ n. Asks m us k n) (with_one m us a i) k
          (one_more P (λ n. Asks m us i n) a i g (λ n x. x)) (λ n x. x))

      pub one_tells : (n : ℕ) → Told ls (λ k. k ≡ n) (Least n)
      one_tells n = λ k e u w. ap (λ x. is_misfit m u (unit_at us x)) (sym e) ∙ w
