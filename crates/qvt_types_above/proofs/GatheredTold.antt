-- A list of all units by which others are told of tells of these.
use Rattle.std.proofs.Common.{◌≡◌, ℕ, ◌==◌, List, [], ◌∷◌, ◌++◌, Bool, true, false, ◌⊎◌, inl, inr, refl, sym, subst}
use Rattle.std.specs.Prelude.{if◌then◌else◌}
use Rattle.std.specs.List.{list_any, list_all}
use Rattle.std.proofs.lemmas.Bool.{eqb-true}
use Rattle.qvt_base.specs.declared.numbers.ClassNo.{ClassNo}
use Rattle.qvt_metas.specs.Metamodels.{Metamodels}
use Rattle.qvt_metamodel.proofs.Bools.{and_left, and_right, or_cases}
use Rattle.qvt_types_groups.specs.declared.signature.Signature.{Signature}
use Rattle.qvt_types_above.specs.declared.above.Above.{Above}
use Rattle.qvt_types_above.specs.declared.above.Above.TheVariants.{Untold, Nothing, Least, Both, Listed}
use Rattle.qvt_types_above.specs.Above.{above_at}
use Rattle.qvt_types_above.specs.Gathered.{put, put_all, numbers_of, put_classes, gathered, is_told, are_told}
use Rattle.qvt_types_above.specs.Tells.{Asks, SomeAsks, AsksTold, AsksClasses, IsAskedBy, Tells}

-- of some of these classes P holds
abbrev pub OfSome : (ℕ → ℕ → Type 0) → List ClassNo → ℕ → Type 0
OfSome P [] x = ⊥
OfSome P (c ∷ cs) x = P c.0 x ⊎ OfSome P cs x

module _ (m : Metamodels) (us : List Signature) where
  front : (ks ns : List ℕ) (x : ℕ) → SomeAsks m us ks x → SomeAsks m us (ks ++ ns) x
  front [] ns x s = absurd s
  front (k ∷ ks) ns x s = elim s [ inl a ↦ inl a | inr r ↦ inr (front ks ns x r) ]

  last : (ks : List ℕ) (n x : ℕ) → Asks m us n x → SomeAsks m us (ks ++ n ∷ []) x
  last [] n x a = inl a
  last (k ∷ ks) n x a = inr (last ks n x a)

  there : (ks : List ℕ) (n x : ℕ) → list_any (λ k. k == n) ks ≡ true → Asks m us n x → SomeAsks m us ks x
  there [] n x e a = absurd (cc)
  there (k ∷ ks) n x e a = elim (or_cases (k == n) (list_any (λ k. k == n) ks) e) [
    | inl same ↦ inl (subst (λ y. Asks m us y x) (sym (eqb-true k n same)) a)
    | inr rest ↦ inr (there ks n x rest a)
  ]

  kept : (ks : List ℕ) (n x : ℕ) → SomeAsks m us ks x → SomeAsks m us (put ks n) x
  kept ks n x s = by (list_any (λ k. k == n) ks)
    where
      by : (b : Bool) → SomeAsks m us (if b then ks else ks ++ n ∷ []) x
      by true = s
      by false = front ks (n ∷ []) x s

  placed : (ks : List ℕ) (n x : ℕ) → Asks m us n x → SomeAsks m us (put ks n) x
  placed ks n x a = by (list_any (λ k. k == n) ks) refl
    where
      by : (b : Bool) → list_any (λ k. k == n) ks ≡ b → SomeAsks m us (if b then ks else ks ++ n ∷ []) x
      by true e = there ks n x e a
      by false e = last ks n x a

  all_kept : (ns ks : List ℕ) (x : ℕ) → SomeAsks m us ks x → SomeAsks m us (put_all ks ns) x
  all_kept [] ks x s = s
  all_kept (n ∷ ns) ks x s = all_kept ns (put ks n) x (kept ks n x s)

  all_placed : (ns ks : List ℕ) (x : ℕ) → SomeAsks m us ns x → SomeAsks m us (put_all ks ns) x
  all_placed [] ks x s = absurd s
  all_placed (n ∷ ns) ks x s = elim s [ inl a ↦ all_kept ns (put ks n) x (placed ks n x a) | inr r ↦ all_placed ns (put ks n) x r ]

  module _ (ls : List (List ℕ)) where
    by_numbers : (P : ℕ → Type 0) (a : Above) → Tells m us ls P a → is_told a ≡ true → (x : ℕ) → P x → SomeAsks m us (numbers_of ls a) x
    by_numbers P Untold told e x p = absurd (cc)
    by_numbers P Nothing told e x p = absurd (told x p)
    by_numbers P (Least k) told e x p = inl (told x p)
    by_numbers P (Both i k) told e x p = elim (told x p) [ inl one ↦ inl one | inr other ↦ inr (inl other) ]
    by_numbers P (Listed s) told e x p = told x p

    module _ (row : List Above) where
      classes_kept : (cs : List ClassNo) (ks : List ℕ) (x : ℕ) → SomeAsks m us ks x → SomeAsks m us (put_classes ls row ks cs) x
      classes_kept [] ks x s = s
      classes_kept (c ∷ cs) ks x s = classes_kept cs (put_all ks (numbers_of ls (above_at row c.0))) x (all_kept (numbers_of ls (above_at row c.0)) ks x s)

      module _ (P : ℕ → ℕ → Type 0) (told : (c : ℕ) → Tells m us ls (P c) (above_at row c)) where
        classes_placed : (cs : List ClassNo) (ks : List ℕ) → list_all (λ c. is_told (above_at row c.0)) cs ≡ true → (x : ℕ) → OfSome P cs x → SomeAsks m us (put_classes ls row ks cs) x
        classes_placed [] ks e x f = absurd f
        classes_placed (c ∷ cs) ks e x f = elim f [
          | inl here ↦ classes_kept cs (put_all ks (numbers_of ls (above_at row c.0))) x (all_placed (numbers_of ls (above_at row c.0)) ks x
              (by_numbers (P c.0) (above_at row c.0) (told c.0) (and_left (is_told (above_at row c.0)) (list_all (λ c. is_told (above_at row c.0)) cs) e) x here))
          | inr rest ↦ classes_placed cs (put_all ks (numbers_of ls (above_at row c.0))) (and_right (is_told (above_at row c.0)) (list_all (λ c. is_told (above_at row c.0)) cs) e) x rest
        ]

        pub gathered_tell : (Q : ℕ → Type 0) (a : Above) → Tells m us ls Q a → (cs : List ClassNo) → are_told row a cs ≡ true → (x : ℕ) → Q x ⊎ OfSome P cs x
            → SomeAsks m us (gathered ls row a cs) x
        gathered_tell Q a h cs e x r = elim r [
          | inl q ↦ classes_kept cs (put_all [] (numbers_of ls a)) x
              (all_placed (numbers_of ls a) [] x (by_numbers Q a h (and_left (is_told a) (list_all (λ c. is_told (above_at row c.0)) cs) e) x q))
          | inr f ↦ classes_placed cs (put_all [] (numbers_of ls a)) (and_right (is_told a) (list_all (λ c. is_told (above_at row c.0)) cs) e) x f
        ]

      -- What asks all that is told of units asks all that they ask.

      told_asks : (n : ℕ) (P : ℕ → Type 0) (a : Above) → Tells m us ls P a → AsksTold m us ls n a → (x : ℕ) → P x → Asks m us n x
      told_asks n P a told asks x p = asks.1 x (by_numbers P a told asks.0 x p)

      module _ (P : ℕ → ℕ → Type 0) (told : (c : ℕ) → Tells m us ls (P c) (above_at row c)) where
        classes_ask : (n : ℕ) (cs : List ClassNo) → AsksClasses m us ls row n cs → (x : ℕ) → OfSome P cs x → Asks m us n x
        classes_ask n [] asks x f = absurd f
        classes_ask n (c ∷ cs) asks x f = elim f [
          | inl here ↦ told_asks n (P c.0) (above_at row c.0) (told c.0) asks.0 x here
          | inr rest ↦ classes_ask n cs asks.1 x rest
        ]

        pub asked_tells : (Q : ℕ → Type 0) (a : Above) → Tells m us ls Q a → (cs : List ClassNo) → IsAskedBy m us ls row a cs → Tells m us ls (λ x. Q x ⊎ OfSome P cs x) a
        asked_tells Q Untold h cs asks = tt
        asked_tells Q Nothing h cs asks = absurd asks
        asked_tells Q (Least n) h cs asks = λ x r. elim r [ inl q ↦ h x q | inr f ↦ classes_ask n cs asks x f ]
        asked_tells Q (Both i k) h cs asks = absurd asks
        asked_tells Q (Listed s) h cs asks = absurd asks
