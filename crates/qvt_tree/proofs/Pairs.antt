-- Two lists that are compared item by item.
use Rattle.std.proofs.Common.{◌≡◌, ◌≢◌, ℕ, ◌+◌, ◌<◌, Bool, true, false, ◌&&◌, List, [], ◌∷◌, length, drop, get_or, map, refl, ap, ◌∙◌, arith}
use Rattle.std.proofs.lemmas.List.{drop_more}
use Rattle.std.specs.Cmp.Lexicographic.{pointwise}
use Rattle.qvt_tree_types.specs.Tree.{ExprTerm, LinkTerm, ItemTerm, StepTerm, StmtTerm, ArmTerm}
use Rattle.qvt_tree_types.specs.View.{exprs_of, links_of, items_of, steps_of, stmts_of, arms_of}
use Rattle.qvt_tree.specs.Same.{same_expr, same_exprs, same_link, same_links, same_item, same_items, same_step, same_steps, same_stmt, same_stmts, same_arm, same_arms}

module _ {A B : Type 0} (test : B → B → Bool) (v : A → B) where
  abbrev pub each : List A → List A → Bool
  each xs ys = pointwise test (map v xs) (map v ys)

  false_after : (b c : Bool) → c ≡ false → (b && c) ≡ false
  false_after true c h = h
  false_after false c h = refl

  pub each_lengths : (xs ys : List A) → length xs ≢ length ys → each xs ys ≡ false
  each_lengths [] [] h = absurd (h refl)
  each_lengths [] (y ∷ ys) h = refl
  each_lengths (x ∷ xs) [] h = refl
  each_lengths (x ∷ xs) (y ∷ ys) h = false_after (test (v x) (v y)) (each xs ys) (each_lengths xs ys (λ e. h (omega (arith, e))))

  pub each_more : (xs ys : List A) (i : ℕ) (d e : A) → i < length xs → i < length ys → each (drop i xs) (drop i ys) ≡ (test (v (get_or xs i d)) (v (get_or ys i e)) && each (drop (i + 1) xs) (drop (i + 1) ys))
  each_more xs ys i d e h k = (λ j. each (drop_more xs i d h j) (drop_more ys i e k j))

  -- one more pair, equal or not
  pub each_step : (whole : Bool) (xs ys : List A) (i : ℕ) (d e : A) → whole ≡ each (drop i xs) (drop i ys) → i < length xs → i < length ys → test (v (get_or xs i d)) (v (get_or ys i e)) ≡ true → whole ≡ each (drop (i + 1) xs) (drop (i + 1) ys)
  each_step whole xs ys i d e w h k t = w ∙ each_more xs ys i d e h k ∙ ap (λ z. z && each (drop (i + 1) xs) (drop (i + 1) ys)) t

pub exprs_each : (xs ys : List ExprTerm) → same_exprs (exprs_of xs) (exprs_of ys) ≡ pointwise same_expr xs ys
exprs_each [] [] = refl
exprs_each [] (y ∷ ys) = refl
exprs_each (x ∷ xs) [] = refl
exprs_each (x ∷ xs) (y ∷ ys) = ap (λ z. same_expr x y && z) (exprs_each xs ys)

pub links_each : (xs ys : List LinkTerm) → same_links (links_of xs) (links_of ys) ≡ pointwise same_link xs ys
links_each [] [] = refl
links_each [] (y ∷ ys) = refl
links_each (x ∷ xs) [] = refl
links_each (x ∷ xs) (y ∷ ys) = ap (λ z. same_link x y && z) (links_each xs ys)

pub items_each : (xs ys : List ItemTerm) → same_items (items_of xs) (items_of ys) ≡ pointwise same_item xs ys
items_each [] [] = refl
items_each [] (y ∷ ys) = refl
items_each (x ∷ xs) [] = refl
items_each (x ∷ xs) (y ∷ ys) = ap (λ z. same_item x y && z) (items_each xs ys)

pub steps_each : (xs ys : List StepTerm) → same_steps (steps_of xs) (steps_of ys) ≡ pointwise same_step xs ys
steps_each [] [] = refl
steps_each [] (y ∷ ys) = refl
steps_each (x ∷ xs) [] = refl
steps_each (x ∷ xs) (y ∷ ys) = ap (λ z. same_step x y && z) (steps_each xs ys)

pub stmts_each : (xs ys : List StmtTerm) → same_stmts (stmts_of xs) (stmts_of ys) ≡ pointwise same_stmt xs ys
stmts_each [] [] = refl
stmts_each [] (y ∷ ys) = refl
stmts_each (x ∷ xs) [] = refl
stmts_each (x ∷ xs) (y ∷ ys) = ap (λ z. same_stmt x y && z) (stmts_each xs ys)

pub arms_each : (xs ys : List ArmTerm) → same_arms (arms_of xs) (arms_of ys) ≡ pointwise same_arm xs ys
arms_each [] [] = refl
arms_each [] (y ∷ ys) = refl
arms_each (x ∷ xs) [] = refl
arms_each (x ∷ xs) (y ∷ ys) = ap (λ z. same_arm x y && z) (arms_each xs ys)
