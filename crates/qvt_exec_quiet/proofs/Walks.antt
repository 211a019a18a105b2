-- Lists of expressions, of links and of steps from a place on.
use Rattle.std.proofs.Common.{◌≡◌, ◌∙◌, ℕ, zero, suc, ◌+◌, ◌<◌, ◌≤◌, Bool, true, false, ◌&&◌, refl, sym, ap, List, [], ◌∷◌, map, drop, length, get_or, arith}
use Rattle.qvt_types_nodes.specs.View.{typed_expr_view, typed_exprs_of, typed_link_view, typed_links_of, typed_step_view, typed_steps_of}
use Rattle.qvt_types_nodes.specs.declared.tree.TypedExpr.{TypedExpr}
use Rattle.qvt_types_nodes.specs.declared.tree.TypedLink.{TypedLink}
use Rattle.qvt_types_nodes.specs.declared.tree.TypedStep.{TypedStep}
use Rattle.qvt_exec_quiet.specs.Leaves.{is_quiet, is_quiet_link, are_quiet_links, is_quiet_step, are_quiet_steps, are_quiet}

abbrev pub links_from : List TypedLink → ℕ → Bool
links_from ls i = are_quiet_links (typed_links_of (map typed_link_view (drop i ls)))

abbrev pub steps_from : List TypedStep → ℕ → Bool
steps_from ls i = are_quiet_steps (typed_steps_of (map typed_step_view (drop i ls)))

abbrev pub exprs_from : List TypedExpr → ℕ → Bool
exprs_from es i = are_quiet (typed_exprs_of (map typed_expr_view (drop i es)))

links_at : (ls : List TypedLink) (i : ℕ) (d : TypedLink) → i < length ls → links_from ls i ≡ (is_quiet_link (typed_link_view (get_or ls i d)) && links_from ls (suc i))
links_at [] i d h = absurd (omega arith)
links_at (l ∷ ls) zero d h = refl
links_at (l ∷ ls) (suc i) d h = links_at ls i d (omega arith)

steps_at : (ls : List TypedStep) (i : ℕ) (d : TypedStep) → i < length ls → steps_from ls i ≡ (is_quiet_step (typed_step_view (get_or ls i d)) && steps_from ls (suc i))
steps_at [] i d h = absurd (omega arith)
steps_at (l ∷ ls) zero d h = refl
steps_at (l ∷ ls) (suc i) d h = steps_at ls i d (omega arith)

exprs_at : (es : List TypedExpr) (i : ℕ) (d : TypedExpr) → i < length es → exprs_from es i ≡ (is_quiet (typed_expr_view (get_or es i d)) && exprs_from es (suc i))
exprs_at [] i d h = absurd (omega arith)
exprs_at (e ∷ es) zero d h = refl
exprs_at (e ∷ es) (suc i) d h = exprs_at es i d (omega arith)

-- one is quiet, so the rest tell
pub link_on : (ls : List TypedLink) (i : ℕ) (l : TypedLink) (whole : Bool) → i < length ls → l ≡ get_or ls i l → is_quiet_link (typed_link_view l) ≡ true → links_from ls i ≡ whole → links_from ls (i + 1) ≡ whole
link_on ls i l whole h is quiet so_far =
    let next : i + 1 ≡ suc i = omega arith in
    ap (links_from ls) next ∙ sym (ap (λ b. b && links_from ls (suc i)) (ap (λ k. is_quiet_link (typed_link_view k)) (sym is) ∙ quiet)) ∙ sym (links_at ls i l h) ∙ so_far

pub step_on : (ls : List TypedStep) (i : ℕ) (l : TypedStep) (whole : Bool) → i < length ls → l ≡ get_or ls i l → is_quiet_step (typed_step_view l) ≡ true → steps_from ls i ≡ whole → steps_from ls (i + 1) ≡ whole
step_on ls i l whole h is quiet so_far =
    let next : i + 1 ≡ suc i = omega arith in
    ap (steps_from ls) next ∙ sym (ap (λ b. b && steps_from ls (suc i)) (ap (λ k. is_quiet_step (typed_step_view k)) (sym is) ∙ quiet)) ∙ sym (steps_at ls i l h) ∙ so_far

pub expr_on : (es : List TypedExpr) (i : ℕ) (e : TypedExpr) (whole : Bool) → i < length es → e ≡ get_or es i e → is_quiet (typed_expr_view e) ≡ true → exprs_from es i ≡ whole → exprs_from es (i + 1) ≡ whole
expr_on es i e whole h is quiet so_far =
    let next : i + 1 ≡ suc i = omega arith in
    ap (exprs_from es) next ∙ sym (ap (λ b. b && exprs_from es (suc i)) (ap (λ k. is_quiet (typed_expr_view k)) (sym is) ∙ quiet)) ∙ sym (exprs_at es i e h) ∙ so_far

-- one is not, so not all are
pub link_not : (ls : List TypedLink) (i : ℕ) (l : TypedLink) (whole : Bool) → i < length ls → l ≡ get_or ls i l → is_quiet_link (typed_link_view l) ≡ false → links_from ls i ≡ whole → false ≡ whole
link_not ls i l whole h is loud so_far = sym (ap (λ b. b && links_from ls (suc i)) (ap (λ k. is_quiet_link (typed_link_view k)) (sym is) ∙ loud)) ∙ sym (links_at ls i l h) ∙ so_far

pub step_not : (ls : List TypedStep) (i : ℕ) (l : TypedStep) (whole : Bool) → i < length ls → l ≡ get_or ls i l → is_quiet_step (typed_step_view l) ≡ false → steps_from ls i ≡ whole → false ≡ whole
step_not ls i l whole h is loud so_far = sym (ap (λ b. b && steps_from ls (suc i)) (ap (λ k. is_quiet_step (typed_step_view k)) (sym is) ∙ loud)) ∙ sym (steps_at ls i l h) ∙ so_far

pub expr_not : (es : List TypedExpr) (i : ℕ) (e : TypedExpr) (whole : Bool) → i < length es → e ≡ get_or es i e → is_quiet (typed_expr_view e) ≡ false → exprs_from es i ≡ whole → false ≡ whole
expr_not es i e whole h is loud so_far = sym (ap (λ b. b && exprs_from es (suc i)) (ap (λ k. is_quiet (typed_expr_view k)) (sym is) ∙ loud)) ∙ sym (exprs_at es i e h) ∙ so_far

-- none is left
pub links_done : (ls : List TypedLink) (i : ℕ) (whole : Bool) → length ls ≤ i → links_from ls i ≡ whole → true ≡ whole
links_done [] zero whole h so_far = so_far
links_done [] (suc i) whole h so_far = so_far
links_done (l ∷ ls) zero whole h so_far = absurd (omega arith)
links_done (l ∷ ls) (suc i) whole h so_far = links_done ls i whole (omega arith) so_far

pub steps_done : (ls : List TypedStep) (i : ℕ) (whole : Bool) → length ls ≤ i → steps_from ls i ≡ whole → true ≡ whole
steps_done [] zero whole h so_far = so_far
steps_done [] (suc i) whole h so_far = so_far
steps_done (l ∷ ls) zero whole h so_far = absurd (omega arith)
steps_done (l ∷ ls) (suc i) whole h so_far = steps_done ls i whole (omega arith) so_far

pub exprs_done : (es : List TypedExpr) (i : ℕ) (whole : Bool) → length es ≤ i → exprs_from es i ≡ whole → true ≡ whole
exprs_done [] zero whole h so_far = so_far
exprs_done [] (suc i) whole h so_far = so_far
exprs_done (e ∷ es) zero whole h so_far = absurd (omega arith)
exprs_done (e ∷ es) (suc i) whole h so_far = exprs_done es i whole (omega arith) so_far
