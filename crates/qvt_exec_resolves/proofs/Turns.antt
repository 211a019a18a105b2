-- What the turns of a search give together, the last first.
use Rattle.std.proofs.Common.{◌≡◌, ℕ, refl, sym, ap, ◌∙◌, List, [], ◌∷◌, ◌++◌, append_assoc, append-nil, fold, map}
use Rattle.std.specs.List.{flat_map}
use Rattle.std.proofs.lemmas.List.{reverse-append}
use Rattle.qvt_exec_resolves.specs.Disjuncts.{waiting}
use Rattle.qvt_exec_resolves.specs.declared.disjuncts.Turn.{Turn}
use Rattle.qvt_exec_resolves.specs.declared.disjuncts.Turn.TheVariants.{Open}

pub fold-joined : {A B : Type 0} (f : B → A → B) (a : B) (xs ys : List A) → fold f a (xs ++ ys) ≡ fold f (fold f a xs) ys
fold-joined f a [] ys = refl
fold-joined f a (x ∷ xs) ys = fold-joined f (f a x) xs ys

module _ (of : Turn → List ℕ) where
  abbrev pub before : List ℕ → Turn → List ℕ
  before rest t = of t ++ rest

  abbrev pub gathered : List Turn → List ℕ
  gathered ts = fold before [] ts

  pub gathered-last : (ts : List Turn) (t : Turn) → gathered (ts ++ t ∷ []) ≡ of t ++ gathered ts
  gathered-last ts t = fold-joined before [] ts (t ∷ [])

  pub gathered-waiting : (ts : List Turn) (n : ℕ) (ks : List ℕ) → gathered (ts ++ waiting n ks) ≡ flat_map (λ k. of (Open k n)) ks ++ gathered ts
  gathered-waiting ts n [] = ap gathered (append-nil ts)
  gathered-waiting ts n (k ∷ ks) =
      ap (λ (l : List Turn). gathered (ts ++ l)) (reverse-append (Open k n ∷ []) (map (λ j. Open j n) ks))
      ∙ ap gathered (sym (append_assoc ts (waiting n ks) (Open k n ∷ [])))
      ∙ gathered-last (ts ++ waiting n ks) (Open k n)
      ∙ ap (λ (l : List ℕ). of (Open k n) ++ l) (gathered-waiting ts n ks)
      ∙ sym (append_assoc (of (Open k n)) (flat_map (λ j. of (Open j n)) ks) (gathered ts))
