-- What expressions are read as has a form, and is read again.
use Rattle.std.proofs.Common.{◌≡◌, ℕ, zero, suc, ◌≤◌, ◌<◌, List, [], ◌∷◌, map, Bool, true, false, ◌⊎◌, inl, inr, refl, sym, ap, ◌∙◌, subst, None, arith}
use Rattle.qvt_base.specs.declared.numbers.Place.{Place}
use Rattle.qvt_tree_types.specs.Tree.{ExprTerm, LinkTerm, LinkOf, MoreLinks, StepTerm, IfExpr, ChainExpr, PrefixExpr, PostExpr}
use Rattle.qvt_tree_types.specs.View.{links_of}
use Rattle.qvt_tree_types.specs.declared.words.BinaryOp.{BinaryOp}
use Rattle.qvt_tree_types.specs.declared.words.BinaryOp.TheVariants as ops
use Rattle.qvt_tree.specs.Shape.{nowhere, erase_expr, erase_link, erase_links}
use Rattle.qvt_grammar.specs.Language.{Language, turns}
use Rattle.qvt_language.specs.Tokens.{Tok}
use Rattle.qvt_language.specs.declared.class.Class.{Class}
use Rattle.qvt_language.specs.declared.class.Class.TheVariants as class
use Rattle.qvt_language.specs.Leads.{Lead, Plain, Bracketed, Each}
use Rattle.qvt_language.specs.Trees.{expr_of, link_of, chain_of, binary_op}
use Rattle.qvt_language.specs.Grammar.{NestedLanguages, expr, brackets, bare_expr, if_expr, other_primary, primary, step, post, signed_post, pre, operator, link, links, chain, level_of, flagged}
use Rattle.qvt_printer_layout.specs.Words as words
use Rattle.qvt_printer.specs.Expressions as print
use Rattle.qvt_printer.specs.Levels.{is_as_loose, is_chain_or_prefix}
use Rattle.qvt_readback_tokens.specs.Spelled.{all_spelled}
use Rattle.qvt_readback_trees.specs.Printable.{IsPrintableExpr, IsPrintableLink, ArePrintableLinks}
use Rattle.qvt_readback_tokens.proofs.Classes.{is_itself}
use Rattle.qvt_readback_trees.proofs.Spelling.{plain}
use Rattle.qvt_readback_trees.proofs.Again.{Again, any, again_word, again_one, again_turns}
use Rattle.qvt_readback_trees.proofs.AgainExprs.{AgainNested, Inside, again_bare_expr, again_if_expr, bare_basic}
use Rattle.qvt_readback_trees.proofs.AgainSteps.{again_step}
use Rattle.qvt_readback_trees.proofs.Forms.{index_back, tight_operand, is_primary, is_basic, NeedsBracket, Form, basic_form, Bracket}
use Rattle.qvt_readback_trees.proofs.ChainReads.{anyhow, pre_opens, operand_reads, shown_expr}
use Rattle.qvt_readback_trees.proofs.Good.{GoodSteps, GoodPrimary, GoodOperand, BracketGood, post_operand, lead_expr, lead_bracket, signed_operand}

basic_primary : (e : ExprTerm) → is_basic e ≡ true → is_primary e ≡ true
basic_primary (IfExpr condition one_value other place) q = refl
basic_primary (ChainExpr level first rest place) q = q
basic_primary (PrefixExpr before e place) q = q
basic_primary (PostExpr first steps place) q = q
basic_primary _ q = refl

primary_first : (e : ExprTerm) → is_primary e ≡ true → is_chain_or_prefix e ≡ false
primary_first (ChainExpr level first rest place) q = absurd cc
primary_first (PrefixExpr before e place) q = absurd cc
primary_first _ q = refl

-- operators

abbrev sign_class : Class → Class
sign_class c = words.operator_sign (binary_op c)

operator_kept : (op : BinaryOp) → binary_op (words.operator_sign op) ≡ op
operator_kept ops.Implies = refl
operator_kept _ = refl

again_operator : (k : ℕ) → k < 8 → Again any (λ (t : Tok). print.one (sign_class t.class)) (λ t. plain (sign_class t.class)) (operator k) (operator k)
again_operator zero lt = again_word class.Star class.Star sign_class refl _ (refl, is_itself class.Star)
again_operator (suc zero) lt = again_one
    (again_word class.PlusSign class.PlusSign sign_class refl _ (inl (refl, is_itself class.PlusSign)))
    (again_word class.MinusSign class.MinusSign sign_class refl _ (inr (refl, is_itself class.MinusSign)))
again_operator (suc (suc zero)) lt = again_one (again_word class.LessSign class.LessSign sign_class refl _ (inl (refl, is_itself class.LessSign)))
    (again_one (again_word class.AtMost class.AtMost sign_class refl _ (inr (inl (refl, is_itself class.AtMost))))
    (again_one (again_word class.GreaterSign class.GreaterSign sign_class refl _ (inr (inr (inl (refl, is_itself class.GreaterSign)))))
    (again_word class.AtLeast class.AtLeast sign_class refl _ (inr (inr (inr (refl, is_itself class.AtLeast)))))))
again_operator (suc (suc (suc zero))) lt = again_one (again_word class.EqualSign class.EqualSign sign_class refl _ (inl (refl, is_itself class.EqualSign)))
    (again_one (again_word class.DoubleEqual class.EqualSign sign_class refl _ (inl (refl, is_itself class.EqualSign)))
    (again_one (again_word class.Diamond class.Diamond sign_class refl _ (inr (inr (inl (refl, is_itself class.Diamond)))))
    (again_word class.BangEqual class.Diamond sign_class refl _ (inr (inr (inl (refl, is_itself class.Diamond)))))))
again_operator (suc (suc (suc (suc zero)))) lt = again_word class.AndWord class.AndWord sign_class refl _ (refl, is_itself class.AndWord)
again_operator (suc (suc (suc (suc (suc zero))))) lt = again_word class.OrWord class.OrWord sign_class refl _ (refl, is_itself class.OrWord)
again_operator (suc (suc (suc (suc (suc (suc zero)))))) lt = again_word class.XorWord class.XorWord sign_class refl _ (refl, is_itself class.XorWord)
again_operator (suc (suc (suc (suc (suc (suc (suc zero))))))) lt = again_word class.ImpliesWord class.ImpliesWord sign_class refl _ (refl, is_itself class.ImpliesWord)
again_operator (suc (suc (suc (suc (suc (suc (suc (suc k)))))))) lt = absurd (omega arith)

pub bare_links : (ls : List LinkTerm) → links_of (map erase_link ls) ≡ erase_links (links_of ls)
bare_links [] = refl
bare_links (l ∷ ls) = ap (MoreLinks (erase_link l)) (bare_links ls)

-- what is read of an operand that is no chain
record GoodLead (i : NestedLanguages) (x : Lead) : Type 0 where
  operand : GoodOperand i 0 (expr_of x)
  bracket : BracketGood i x

module _ {i : NestedLanguages} (h : AgainNested i) where
  -- primaries

  brackets_good : (ts : List Tok) (e : ExprTerm) → (brackets i).reads ts e → GoodPrimary i (e, false)
  unfolding brackets expr
  brackets_good ts e rd =
      let inside = rd.1.4.3 in
      let same : e ≡ expr_of inside.0 = rd.2 ∙ inside.2 in
      let w = (λ (o : IsPrintableExpr e). subst (Inside i) (sym same) (h.flagged rd.1.4.0 inside.0 inside.1 (subst IsPrintableExpr same o))) in
      record { first = record { form = λ o. (w o).form; bracket = λ o q. (w o).bracket }; shown = λ q. absurd (let z : false ≡ true = q in cc); bracket = λ q o. (w o).bracket }

  bare_good : (e : ExprTerm) → is_primary e ≡ true → (IsPrintableExpr e → Form i e) → GoodPrimary i (e, true)
  bare_good e q f = record { first = record { form = f; bracket = λ o z. absurd (let y = primary_first e q in cc) }; shown = λ z. q; bracket = λ z o. absurd (let y : true ≡ false = z in cc) }

  basic_good : (ts : List Tok) (e : ExprTerm) → (bare_expr i).reads ts e → GoodPrimary i (e, true)
  basic_good ts e rd = let b = bare_basic i ts e rd in bare_good e (basic_primary e b) (λ o. basic_form i e b ((again_bare_expr h).again ts e rd o))

  pub if_good : (ts : List Tok) (e : ExprTerm) → (if_expr i).reads ts e → GoodPrimary i (e, true)
  unfolding if_expr
  if_good ts e rd =
      let whole = (again_if_expr h).again ts e rd in
      subst (λ z. (IsPrintableExpr z → (if_expr i).reads (all_spelled (print.expr z)) (erase_expr z)) → GoodPrimary i (z, true)) (sym rd.2) (λ f. bare_good _ refl f) whole

  pub other_good : (ts : List Tok) (x : ExprTerm × Bool) → (other_primary i).reads ts x → GoodPrimary i x
  unfolding other_primary
  other_good ts x rd = elim rd [
    | inl q ↦ subst (GoodPrimary i) (sym q.2) (brackets_good ts q.0 q.1)
    | inr q ↦ subst (GoodPrimary i) (sym q.2) (basic_good ts q.0 q.1)
  ]

  primary_good : (ts : List Tok) (x : ExprTerm × Bool) → (primary i).reads ts x → GoodPrimary i x
  unfolding primary
  primary_good ts x rd = elim rd [ inl q ↦ subst (GoodPrimary i) (sym q.2) (if_good ts q.0 q.1) | inr q ↦ other_good ts x q ]

  pub steps_good : (ss : List StepTerm) (ts : List Tok) → turns (step i) ts ss → GoodSteps i ss
  steps_good [] ts rd = tt
  steps_good (s ∷ ss) ts rd = (again_step h rd.0 s rd.3, steps_good ss rd.1 rd.4)

  -- what stands before the operators

  post_good : (ts : List Tok) (x : Lead) → (post i).reads ts x → GoodLead i x
  unfolding post
  post_good ts x rd =
      let a = rd.0 in
      let w = rd.1.0 in
      let g = primary_good w.0 a.1.0 w.3 in
      subst (GoodLead i) (sym rd.2) (record {
        operand = subst (GoodOperand i 0) (sym (lead_expr i a.0 a.1.0 a.1.1)) (post_operand i a.0 a.1.0 a.1.1 g (steps_good a.1.1 w.1 w.4));
        bracket = lead_bracket i a.0 a.1.0 a.1.1 g;
      })

  pub signed_good : (ts : List Tok) (x : Lead) → (signed_post i).reads ts x → (e : ExprTerm) × (x ≡ Plain e None) × GoodOperand i 0 e
  unfolding signed_post
  signed_good ts x rd =
      let a = rd.0 in
      let w = rd.1.0 in
      (_, rd.2, signed_operand i a.0 a.1.0.0 a.1.0.1 (expr_of a.1.1) (post_good w.1 a.1.1 w.4).operand)

  pre_good : (ts : List Tok) (x : Lead) → (pre i).reads ts x → GoodLead i x
  unfolding pre
  pre_good ts x rd = elim rd [ inl q ↦ (let w = signed_good ts x q in subst (GoodLead i) (sym w.1) (record { operand = w.2; bracket = tt })) | inr q ↦ post_good ts x q ]

-- links and chains
module _ {i : NestedLanguages} (k : ℕ) (lt : k < 8) (hk : (ts : List Tok) (x : Lead) → (chain k (pre i) (pre i)).reads ts x → GoodOperand i k (expr_of x)) where
  need_bracket : (e : ExprTerm) → GoodOperand i k e → IsPrintableExpr e → NeedsBracket i (is_as_loose (level_of k) e) e
  need_bracket e g o q = elim g.tight [
    | inl le ↦ absurd (let z = tight_operand (level_of k) e (let y = index_back k lt in omega arith) in cc)
    | inr b ↦ b o
  ]

  abbrev LinkReads : LinkTerm → Type 0
  LinkReads l = (link k (chain k (pre i) (pre i))).reads (all_spelled (print.link (level_of k) l)) (erase_link l)

  link_again : (u v : List Tok) (t : Tok) (x : Lead) → (operator k).reads u t → (chain k (pre i) (pre i)).reads v x → IsPrintableExpr (expr_of x) → LinkReads (link_of (t, x))
  unfolding link
  link_again u v t x ro rx o =
      let e = expr_of x in
      let g = hk v x rx in
      let level = level_of k in
      let w = operand_reads i (pre i) anyhow (pre_opens i) level e (g.form o) (need_bracket e g o) (λ q. refl) in
      let rd = subst (λ z. (chain z (pre i) (pre i)).reads (all_spelled (print.operand level e)) w.0) (index_back k lt) w.1 in (
        (plain (sign_class t.class), w.0),
        (plain (sign_class t.class) ∷ [], all_spelled (print.operand level e), refl, (again_operator k lt).again u t ro tt, rd),
        λ j. LinkOf (sym (operator_kept (binary_op t.class)) j) (sym (shown_expr (erase_expr e) w.0 w.2) j) nowhere,
      )

  again_link : Again IsPrintableLink (print.link (level_of k)) erase_link (link k (chain k (pre i) (pre i))) (link k (chain k (pre i) (pre i)))
  unfolding link
  again_link = record { again = λ ts l rd o. subst LinkReads (sym rd.2) (link_again rd.1.0 rd.1.1 rd.0.0 rd.0.1 rd.1.3 rd.1.4 (subst IsPrintableLink rd.2 o)) }

  pub chain_new : (place : Place) (e : ExprTerm) (l : LinkTerm) (more : List LinkTerm) (ts : List Tok) → GoodOperand i k e → turns (link k (chain k (pre i) (pre i))) ts (l ∷ more) → GoodOperand i (suc k) (ChainExpr (level_of k) e (links_of (l ∷ more)) place)
  chain_new place e l more ts g rd =
      let level = level_of k in
      let again = again_turns again_link (λ ls. ArePrintableLinks (links_of ls)) (λ a as' o. o) (λ ls. print.links level (links_of ls)) refl (λ a as'. refl) (l ∷ more) ts rd in
      record {
        form = λ o. (
          g.form o.0,
          need_bracket e g o.0,
          (
            erase_link l,
            map erase_link more,
            ap (MoreLinks (erase_link l)) (bare_links more),
            subst (λ z. turns (link z (chain z (pre i) (pre i))) (all_spelled (print.links level (links_of (l ∷ more)))) (map erase_link (l ∷ more))) (sym (index_back k lt)) (again o.1),
          ),
        );
        tight = inl (let z = index_back k lt in omega arith);
      }

more_tight : (i : NestedLanguages) (k : ℕ) (e : ExprTerm) → GoodOperand i k e → GoodOperand i (suc k) e
more_tight i k e g = record { form = g.form; tight = elim g.tight [ inl le ↦ inl (omega arith) | inr b ↦ inr b ] }

all_tight : (i : NestedLanguages) (k : ℕ) (e : ExprTerm) → GoodOperand i 0 e → GoodOperand i k e
all_tight i k e g = record { form = g.form; tight = elim g.tight [ inl le ↦ inl (omega arith) | inr b ↦ inr b ] }

-- what a chain is read as: what its first operand is, or a chain
abbrev pub Chained : NestedLanguages → (Lead → Type 0) → ℕ → Lead → Type 0
Chained i first k x = first x ⊎ ((e : ExprTerm) × (x ≡ Plain e None) × GoodOperand i k e)

module _ {i : NestedLanguages} (p : Language Tok Lead) (first : Lead → Type 0) (operand : (x : Lead) → first x → GoodOperand i 0 (expr_of x)) where
  pub chained_operand : (k : ℕ) (x : Lead) → Chained i first k x → GoodOperand i k (expr_of x)
  chained_operand k x c = elim c [ inl q ↦ all_tight i k (expr_of x) (operand x q) | inr q ↦ subst (λ z. GoodOperand i k (expr_of z)) (sym q.1) q.2 ]

  chained_more : (k : ℕ) (x : Lead) → Chained i first k x → Chained i first (suc k) x
  chained_more k x c = elim c [ inl q ↦ inl q | inr q ↦ inr (q.0, q.1, more_tight i k q.0 q.2) ]

  chained_links : (k : ℕ) → k < 8 → ((ts : List Tok) (x : Lead) → (chain k (pre i) (pre i)).reads ts x → GoodOperand i k (expr_of x)) → (place : Place) (x : Lead) (ls : List LinkTerm) (ts : List Tok) → Chained i first k x → (links k (chain k (pre i) (pre i)) x).reads ts ls → Chained i first (suc k) (chain_of (level_of k) (place, (x, ls)))
  chained_links k lt hk place x [] ts c rd = chained_more k x c
  chained_links k lt hk place (Plain e t) (l ∷ more) ts c rd = inr (_, refl, chain_new k lt hk place e l more ts (chained_operand k (Plain e t) c) rd)
  chained_links k lt hk place (Bracketed e) (l ∷ more) ts c rd = inr (_, refl, chain_new k lt hk place e l more ts (chained_operand k (Bracketed e) c) rd)
  chained_links k lt hk place (Each e part) (l ∷ more) ts c rd = absurd (let z : l ∷ more ≡ [] = rd.2 in cc)

  pub chain_good : ((k : ℕ) → k ≤ 8 → (ts : List Tok) (x : Lead) → (chain k (pre i) (pre i)).reads ts x → GoodOperand i k (expr_of x)) → ((ts : List Tok) (x : Lead) → p.reads ts x → first x) → (k : ℕ) → k ≤ 8 → (ts : List Tok) (x : Lead) → (chain k p (pre i)).reads ts x → Chained i first k x
  unfolding chain
  chain_good hq hp zero le ts x rd = inl (hp ts x rd)
  chain_good hq hp (suc k) le ts x rd =
      let a = rd.0 in
      let w = rd.1.0 in
      subst (Chained i first (suc k)) (sym rd.2) (chained_links k (omega arith) (hq k (omega arith)) a.0 a.1.0 a.1.1 w.1 (chain_good hq hp k (omega arith) w.0 a.1.0 w.3) w.4)

module _ {i : NestedLanguages} (h : AgainNested i) where
  lead_operand : (x : Lead) → GoodLead i x → GoodOperand i 0 (expr_of x)
  lead_operand x g = g.operand

  pre_chained : (k : ℕ) → k ≤ 8 → (ts : List Tok) (x : Lead) → (chain k (pre i) (pre i)).reads ts x → Chained i (GoodLead i) k x
  unfolding chain
  pre_chained zero le ts x rd = inl (pre_good h ts x rd)
  pre_chained (suc k) le ts x rd =
      let a = rd.0 in
      let w = rd.1.0 in
      let own : (us : List Tok) (y : Lead) → (chain k (pre i) (pre i)).reads us y → GoodOperand i k (expr_of y) = λ us y ry. chained_operand (pre i) (GoodLead i) lead_operand k y (pre_chained k (omega arith) us y ry) in
      subst (Chained i (GoodLead i) (suc k)) (sym rd.2) (chained_links (pre i) (GoodLead i) lead_operand k (omega arith) own a.0 a.1.0 a.1.1 w.1 (pre_chained k (omega arith) w.0 a.1.0 w.3) w.4)

  pub pre_chain_good : (k : ℕ) → k ≤ 8 → (ts : List Tok) (x : Lead) → (chain k (pre i) (pre i)).reads ts x → GoodOperand i k (expr_of x)
  pre_chain_good k le ts x rd = chained_operand (pre i) (GoodLead i) lead_operand k x (pre_chained k le ts x rd)

  pub flagged_good : (ts : List Tok) (x : Lead) → (flagged i).reads ts x → IsPrintableExpr (expr_of x) → Form i (expr_of x)
  unfolding flagged
  flagged_good ts x rd o = (pre_chain_good 8 (omega arith) ts x rd).form o

  chained_bracket : (x : Lead) → Chained i (GoodLead i) 8 x → BracketGood i x
  chained_bracket x c = elim c [ inl q ↦ q.bracket | inr q ↦ subst (BracketGood i) (sym q.1) tt ]

  pub bracket_good : (ts : List Tok) (e : ExprTerm) → (flagged i).reads ts (Bracketed e) → IsPrintableExpr e → Bracket i e
  unfolding flagged
  bracket_good ts e rd o = chained_bracket (Bracketed e) (pre_chained 8 (omega arith) ts (Bracketed e) rd) o
