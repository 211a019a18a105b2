-- What is read as an expression in brackets alone, and the forms of the statements that begin with `if`.
use Rattle.std.proofs.Common.{◌≡◌, ℕ, zero, suc, List, [], ◌∷◌, ◌++◌, Bool, true, false, ◌⊎◌, inl, inr, refl, sym, ap, ◌∙◌, subst, append-nil, Option, Some, None}
use Rattle.qvt_base.specs.declared.numbers.Place.{Place}
use Rattle.qvt_grammar.specs.Language.{Language, then, made, maybe, turns, head_of}
use Rattle.qvt_grammar.proofs.Wider.{sub_same, sub_then}
use Rattle.qvt_grammar.proofs.Lists.{regroup, grouped}
use Rattle.qvt_tree_types.specs.Tree.{ExprTerm, StepTerm, LinkTerm, StmtTerm}
use Rattle.qvt_tree_types.specs.declared.words.Sign.{Sign}
use Rattle.qvt_words.specs.declared.class.Class.TheVariants.{IfWord, ThenWord, ElseWord, EndifWord}
use Rattle.qvt_language.specs.Tokens.{Tok}
use Rattle.qvt_language.specs.Readers.{nowhere, the}
use Rattle.qvt_language.specs.Series.{finished}
use Rattle.qvt_language.specs.Leads.{Lead, Plain, Bracketed, Each, EachPart}
use Rattle.qvt_language.specs.Trees.{inner, expr_of, post_lead, prefix_lead, chain_of}
use Rattle.qvt_language.specs.StmtTrees.{Branches, Choice, branched, each_over, choice_expr, if_made}
use Rattle.qvt_language.specs.Grammar.{NestedLanguages, level_of, links, chain, brackets, other_primary, primary, step, post, signed_post, pre, flagged, expr, if_expr, lead_step}
use Rattle.qvt_language.specs.Statements.{condition, branches, choice, if_rest, if_stmt}
use Rattle.qvt_language.specs.Conditionals.{block_form, each_form, if_forms}
use Rattle.qvt_language.specs.Nesting.{nested}
use Rattle.qvt_language.proofs.EveryStmts.{k_condition, k_branches, k_choice}
use Rattle.qvt_language.proofs.GoodNesting.{good_nested}

no_links : (k : ℕ) (place : Place) (x : Lead) (ls : List LinkTerm) (e : ExprTerm) → Bracketed e ≡ chain_of (level_of k) (place, (x, ls)) → (x ≡ Bracketed e) × (ls ≡ [])
no_links k place x [] e h = (sym h, refl)
no_links k place x (l ∷ ls) e h = absurd cc

first_alone : (ts u v : List Tok) → ts ≡ u ++ v → v ≡ [] → ts ≡ u
first_alone ts u v e n = e ∙ ap (λ z. u ++ z) n ∙ append-nil u

module _ (q : Language Tok Lead) where
  nothing_linked : (k : ℕ) (v : List Tok) (x : Lead) (ls : List LinkTerm) (e : ExprTerm) → x ≡ Bracketed e → ls ≡ [] → (links k q x).reads v ls → v ≡ []
  nothing_linked k v x ls e h n rd = subst (λ z. (links k q (Bracketed e)).reads v z) n (subst (λ z. (links k q z).reads v ls) h rd)

-- an operand in brackets alone is the whole chain
module _ (p q : Language Tok Lead) where
  of_chain : (k : ℕ) (ts : List Tok) (e : ExprTerm) → (chain k p q).reads ts (Bracketed e) → p.reads ts (Bracketed e)
  unfolding chain
  of_chain zero ts e rd = rd
  of_chain (suc k) ts e rd =
      let z = no_links k rd.0.0 rd.0.1.0 rd.0.1.1 e rd.2 in
      let n = nothing_linked (chain k q q) k rd.1.0.1 rd.0.1.0 rd.0.1.1 e z.0 z.1 rd.1.0.4 in
      of_chain k ts e (subst (λ y. (chain k p q).reads y (Bracketed e)) (sym (first_alone ts rd.1.0.0 rd.1.0.1 rd.1.0.2 n)) (subst (λ y. (chain k p q).reads rd.1.0.0 y) z.0 rd.1.0.3))

  to_chain : (k : ℕ) (ts : List Tok) (e : ExprTerm) → p.reads ts (Bracketed e) → (chain k p q).reads ts (Bracketed e)
  unfolding chain
  to_chain zero ts e rd = rd
  to_chain (suc k) ts e rd = ((head_of (λ t. t.place) nowhere ts, (Bracketed e, [])), ((ts, [], sym (append-nil ts), to_chain k ts e rd, refl), refl), refl)

no_prefix : (z : Place × ((Sign × List Sign) × Lead)) (e : ExprTerm) → Bracketed e ≡ prefix_lead z → ⊥
no_prefix (place, ((s, more), x)) e h = absurd cc

alone : (z : Place × ((ExprTerm × Bool) × List StepTerm)) (e : ExprTerm) → Bracketed e ≡ post_lead z → (z.1.0 ≡ (e, false)) × (z.1.1 ≡ [])
alone (place, ((d, true), [])) e h = absurd cc
alone (place, ((d, false), [])) e h = (let k : d ≡ e = cc in λ i. (k i, false), refl)
alone (place, (x, (s ∷ ss))) e h = absurd cc

module _ (i : NestedLanguages) where
  of_primary : (ts : List Tok) (x : ExprTerm × Bool) (e : ExprTerm) → x ≡ (e, false) → (primary i).reads ts x → (brackets i).reads ts e
  unfolding primary other_primary
  of_primary ts x e h (inl (a, rd, d)) = absurd (let k : true ≡ false = ap (λ z. z.1) (sym d ∙ h) in cc)
  of_primary ts x e h (inr (inl (a, rd, d))) = subst (λ z. (brackets i).reads ts z) (ap (λ z. z.0) (sym d ∙ h)) rd
  of_primary ts x e h (inr (inr (a, rd, d))) = absurd (let k : true ≡ false = ap (λ z. z.1) (sym d ∙ h) in cc)

  of_post : (ts : List Tok) (e : ExprTerm) → (post i).reads ts (Bracketed e) → (brackets i).reads ts e
  unfolding post
  of_post ts e rd =
      let z = alone rd.0 e rd.2 in
      let n : rd.1.0.1 ≡ [] = subst (λ y. turns (step i) rd.1.0.1 y) z.1 rd.1.0.4 in
      subst (λ y. (brackets i).reads y e) (sym (first_alone ts rd.1.0.0 rd.1.0.1 rd.1.0.2 n)) (of_primary rd.1.0.0 rd.0.1.0 e z.0 rd.1.0.3)

  to_post : (ts : List Tok) (e : ExprTerm) → (brackets i).reads ts e → (post i).reads ts (Bracketed e)
  unfolding post primary other_primary
  to_post ts e rd = ((head_of (λ t. t.place) nowhere ts, ((e, false), [])), ((ts, [], sym (append-nil ts), inr (inl (e, rd, refl)), refl), refl), refl)

  of_pre : (ts : List Tok) (e : ExprTerm) → (pre i).reads ts (Bracketed e) → (brackets i).reads ts e
  unfolding pre signed_post
  of_pre ts e (inl rd) = absurd (no_prefix rd.0 e rd.2)
  of_pre ts e (inr rd) = of_post ts e rd

  to_pre : (ts : List Tok) (e : ExprTerm) → (brackets i).reads ts e → (pre i).reads ts (Bracketed e)
  unfolding pre
  to_pre ts e rd = inr (to_post ts e rd)

  -- an expression is read as one in brackets alone exactly where it is "(" Expr ")"
  pub of_bracketed : (ts : List Tok) (e : ExprTerm) → (flagged i).reads ts (Bracketed e) → (condition i).reads ts e
  unfolding flagged brackets condition
  of_bracketed ts e rd = of_pre ts e (of_chain (pre i) (pre i) 8 ts e rd)

  pub to_bracketed : (ts : List Tok) (e : ExprTerm) → (condition i).reads ts e → (flagged i).reads ts (Bracketed e)
  unfolding flagged brackets condition
  to_bracketed ts e rd = to_chain (pre i) (pre i) 8 ts e (to_pre ts e rd)

  -- what stands after the expression that follows `if`
  abbrev HasBlocks : Lead → List Tok → Branches ⊎ Choice → Type 0
  HasBlocks c ts rest = (e : ExprTerm) × (t : Option Tok) × (blocks : Branches) × (c ≡ Bracketed e) × (rest ≡ inl blocks) × (then (maybe (the ThenWord)) (branches i)).reads ts (t, blocks)

  abbrev HasChoice : List Tok → Branches ⊎ Choice → Type 0
  HasChoice ts rest = (t : Tok) × (values : Choice) × (rest ≡ inr values) × (then (the ThenWord) (choice i)).reads ts (t, values)

  rest_cases : (c : Lead) (ts : List Tok) (rest : Branches ⊎ Choice) → (if_rest i c).reads ts rest → HasBlocks c ts rest ⊎ HasChoice ts rest
  rest_cases (Bracketed c) ts rest (inl (b, rd, d)) = inl (c, None, b, refl, d, ([], ts, refl, inr (tt, refl, refl), rd))
  rest_cases (Bracketed c) ts rest (inr (y, (u, v, e, tk, (inl (b, rd, q))), d)) = inl (c, Some y.0, b, refl, d ∙ q, (u, v, e, inl (y.0, tk, refl), rd))
  rest_cases (Bracketed c) ts rest (inr (y, (u, v, e, tk, (inr (x, rd, q))), d)) = inr (y.0, x, d ∙ q, (u, v, e, tk, rd))
  rest_cases (Plain c target) ts rest (y, (u, v, e, tk, (x, rd, q)), d) = inr (y.0, x, d ∙ q, (u, v, e, tk, rd))
  rest_cases (Each c part) ts rest (y, (u, v, e, tk, (x, rd, q)), d) = inr (y.0, x, d ∙ q, (u, v, e, tk, rd))

  blocks_rest : (c : ExprTerm) (ts : List Tok) (t : Option Tok) (blocks : Branches) → (then (maybe (the ThenWord)) (branches i)).reads ts (t, blocks) → (if_rest i (Bracketed c)).reads ts (inl blocks)
  blocks_rest c ts t blocks (u, v, e, (inl (w, tk, d)), rd) = inr ((w, inl blocks), (u, v, e, tk, inl (blocks, rd, refl)), refl)
  blocks_rest c ts t blocks (u, v, e, (inr (w, n, d)), rd) = inl (blocks, subst (λ z. (branches i).reads z blocks) (sym (e ∙ ap (λ z. z ++ v) n)) rd, refl)

  choice_rest : (c : Lead) (ts : List Tok) (t : Tok) (values : Choice) → (then (the ThenWord) (choice i)).reads ts (t, values) → (if_rest i c).reads ts (inr values)
  choice_rest (Bracketed c) ts t values (u, v, e, tk, rd) = inr ((t, inr values), (u, v, e, tk, inr (values, rd, refl)), refl)
  choice_rest (Plain c target) ts t values (u, v, e, tk, rd) = ((t, inr values), (u, v, e, tk, (values, rd, refl)), refl)
  choice_rest (Each c part) ts t values (u, v, e, tk, rd) = ((t, inr values), (u, v, e, tk, (values, rd, refl)), refl)

-- the place is that of the first token
same_place : (u v w : List Tok) (t : Tok) → u ≡ t ∷ [] → head_of (λ x. x.place) nowhere (u ++ v) ≡ head_of (λ x. x.place) nowhere (u ++ w)
same_place u v w t e = ap (λ z. head_of (λ x. x.place) nowhere (z ++ v)) e ∙ sym (ap (λ z. head_of (λ x. x.place) nowhere (z ++ w)) e)

-- a statement that begins with `if` has one of the forms
module _ (n : ℕ) (ts : List Tok) (s : StmtTerm) (place : Place) (w : Tok) (c : Lead) (rest : Branches ⊎ Choice) (u v x y : List Tok)
    (e : ts ≡ u ++ v) (tk : (the IfWord).reads u w) (d : v ≡ x ++ y) (rd : (flagged (nested n)).reads x c) (at : place ≡ head_of (λ t. t.place) nowhere ts) (is : s ≡ if_made place (expr_of c) rest) where
  as_blocks : HasBlocks (nested (suc n)) c y rest → (block_form (nested (suc n))).reads ts s
  as_blocks b = (
    (place, (w, (b.0, (b.1, b.2)))),
    ((u, v, e, tk, (x, y, d, (k_condition (good_nested n)).loose.sub.reads x b.0 (of_bracketed (nested n) x b.0 (subst (λ z. (flagged (nested n)).reads x z) b.3 rd)), b.5)), at),
    is ∙ ap (λ z. if_made place (expr_of c) z) b.4 ∙ ap (λ z. branched place (expr_of z) b.2) b.3,
  )

  as_each : HasChoice (nested (suc n)) y rest → (each_form (nested (suc n))).reads ts s
  unfolding nested choice if_expr expr
  as_each b = let k = b.3.4 in let p = b.3.0 in let a = k.3.0 in let z = k.3.1 in
      let first : y ≡ ((p ++ a) ++ z) ++ k.1 = grouped y b.3.1 k.1 p k.0 b.3.2 k.2 ∙ ap (λ l. l ++ k.1) (grouped (p ++ k.0) k.0 z p a refl k.3.2) in
      let most : v ≡ (x ++ ((p ++ a) ++ z)) ++ k.1 = grouped v y k.1 x ((p ++ a) ++ z) d first in
      let whole : ts ≡ (u ++ (x ++ ((p ++ a) ++ z))) ++ k.1 = grouped ts v k.1 u (x ++ ((p ++ a) ++ z)) e most in (
        (place, (choice_expr place (expr_of c) b.1.0, b.1.1)),
        (
          (
            u ++ (x ++ ((p ++ a) ++ z)),
            k.1,
            whole,
            (
              (place, (w, (expr_of c, b.1.0))),
              (
                (u, x ++ ((p ++ a) ++ z), refl, tk, (x, (p ++ a) ++ z, refl, (c, rd, refl), (p ++ a, z, refl, ((b.0, b.1.0.0), (p, a, refl, b.3.3, k.3.3), refl), k.3.4))),
                at ∙ ap (head_of (λ t. t.place) nowhere) e ∙ same_place u v (x ++ ((p ++ a) ++ z)) w tk.0,
              ),
              refl,
            ),
            k.4,
          ),
          at,
        ),
        is ∙ ap (λ q. if_made place (expr_of c) q) b.2,
      )

pub forms_of : (n : ℕ) (ts : List Tok) (s : StmtTerm) → (if_stmt (nested n)).reads ts s → (if_forms (nested n)).reads ts s
unfolding if_stmt nested
forms_of zero ts s rd = absurd rd.1.0.4.3
forms_of (suc n) ts s rd =
    let k = rd.1.0 in let m = k.4 in let x = rd.0.1.1 in
    elim (rest_cases (nested (suc n)) x.0 m.1 x.1 m.4) [
      | inl b ↦ inl (as_blocks n ts s rd.0.0 rd.0.1.0 x.0 x.1 k.0 k.1 m.0 m.1 k.2 k.3 m.2 m.3 rd.1.1 rd.2 b)
      | inr b ↦ inr (as_each n ts s rd.0.0 rd.0.1.0 x.0 x.1 k.0 k.1 m.0 m.1 k.2 k.3 m.2 m.3 rd.1.1 rd.2 b)
    ]

-- and each of the forms is such a statement
block_stmt : (n : ℕ) (ts : List Tok) (s : StmtTerm) → (block_form (nested n)).reads ts s → (if_stmt (nested (suc n))).reads ts s
unfolding if_stmt nested
block_stmt n ts s rd =
    let k = rd.1.0 in let m = k.4 in let c = rd.0.1.1.0 in let b = rd.0.1.1.1 in
    let rest = (sub_then (maybe (the ThenWord)) (maybe (the ThenWord)) (branches (nested n)) (branches (nested (suc n))) (sub_same (maybe (the ThenWord))) (k_branches (good_nested n)).loose.sub).reads m.1 b m.4 in
    ((rd.0.0, (rd.0.1.0, (Bracketed c, inl b.1))), ((k.0, k.1, k.2, k.3, (m.0, m.1, m.2, to_bracketed (nested n) m.0 c m.3, blocks_rest (nested (suc n)) c m.1 b.0 b.1 rest)), rd.1.1), rd.2)

module _ (n : ℕ) (ts : List Tok) (s : StmtTerm) (place at : Place) (w : Tok) (one other cond value : ExprTerm) (lead : Lead) (t : Tok) (more : List StepTerm × EachPart)
    (l u v x y p a z b : List Tok) (e : ts ≡ l ++ b) (e1 : l ≡ u ++ v) (e2 : v ≡ x ++ y) (e3 : y ≡ p ++ (a ++ z)) (tk : (the IfWord).reads u w) (fl : (nested n).flagged.reads x lead) (is_cond : cond ≡ expr_of lead)
    (th : (the ThenWord).reads p t) (first : (expr (nested n)).reads a one) (second : (made inner (then (the ElseWord) (then (expr (nested n)) (the EndifWord)))).reads z other)
    (steps : (finished (lead_step (nested n))).reads b more) (here : place ≡ head_of (λ y. y.place) nowhere ts) (there : at ≡ head_of (λ y. y.place) nowhere l) (is : s ≡ each_over place value more) (is_value : value ≡ choice_expr at cond (one, other)) where
  all : ts ≡ u ++ (v ++ b)
  all = regroup ts l b u v e e1

  one_place : at ≡ place
  one_place = there ∙ ap (head_of (λ y. y.place) nowhere) e1 ∙ same_place u v (v ++ b) w tk.0 ∙ sym (here ∙ ap (head_of (λ y. y.place) nowhere) all)

  values : (choice (nested n)).reads ((a ++ z) ++ b) ((one, other), more)
  unfolding choice
  values = (a ++ z, b, refl, (a, z, refl, first, second), steps)

  rest : (if_rest (nested (suc n)) lead).reads (y ++ b) (inr ((one, other), more))
  rest = choice_rest (nested (suc n)) lead (y ++ b) t ((one, other), more)
      ((sub_then (the ThenWord) (the ThenWord) (choice (nested n)) (choice (nested (suc n))) (sub_same (the ThenWord)) (k_choice (good_nested n)).loose.sub).reads (y ++ b) (t, ((one, other), more))
      (p, (a ++ z) ++ b, regroup (y ++ b) y b p (a ++ z) refl e3, th, values))

  each_parts : (if_stmt (nested (suc n))).reads ts s
  unfolding if_stmt
  each_parts = (
    (place, (w, (lead, inr ((one, other), more)))),
    ((u, v ++ b, all, tk, (x, y ++ b, regroup (v ++ b) v b x y refl e2, (good_nested n).flagged.loose.sub.reads x lead fl, rest)), here),
    is ∙ ap (λ q. each_over place q more) (is_value ∙ ap (λ q. choice_expr at q (one, other)) is_cond ∙ ap (λ q. choice_expr q (expr_of lead) (one, other)) one_place),
  )

each_stmt : (n : ℕ) (ts : List Tok) (s : StmtTerm) → (each_form (nested n)).reads ts s → (if_stmt (nested (suc n))).reads ts s
unfolding if_expr expr
each_stmt n ts s rd =
    let k = rd.1.0 in let y = k.3.0 in let g = k.3.1.0 in let m = g.4 in let q = m.4 in let o = q.3 in
    each_parts n ts s rd.0.0 y.0 y.1.0 o.0.1 y.1.1.1.1 y.1.1.0 rd.0.1.0 m.3.0 o.0.0 rd.0.1.1
    k.0 g.0 g.1 m.0 m.1 o.1.0 o.1.1 q.1 k.1 k.2 g.2 m.2 (regroup m.1 q.0 q.1 o.1.0 o.1.1 q.2 o.1.2) g.3 m.3.1 m.3.2 o.1.3 o.1.4 q.4 k.4 rd.1.1 k.3.1.1 rd.2
    (k.3.2 ∙ ap (λ x. choice_expr y.0 y.1.1.0 (x, y.1.1.1.1)) o.2)

pub stmt_of : (n : ℕ) (ts : List Tok) (s : StmtTerm) → (if_forms (nested n)).reads ts s → (if_stmt (nested (suc n))).reads ts s
stmt_of n ts s (inl rd) = block_stmt n ts s rd
stmt_of n ts s (inr rd) = each_stmt n ts s rd
