-- Chains of each level are read again.
use Rattle.std.proofs.Common.{◌≡◌, ℕ, zero, suc, ◌+◌, ◌-◌, ◌≤◌, List, [], ◌∷◌, ◌++◌, Bool, true, false, inl, inr, refl, sym, subst, Option, None, arith, append-nil}
use Rattle.qvt_base.specs.declared.numbers.Place.{Place}
use Rattle.qvt_tree_types.specs.Tree.{ExprTerm, LinkTerm, TargetTerm, ChainExpr, PrefixExpr}
use Rattle.qvt_tree_types.specs.declared.words.Level.{Level}
use Rattle.qvt_tree.specs.Shape.{nowhere, erase_expr}
use Rattle.qvt_grammar.specs.Language.{Language, head_of, turns}
use Rattle.qvt_language.specs.Tokens.{Tok}
use Rattle.qvt_language.specs.Leads.{Lead, Plain, Bracketed, Each}
use Rattle.qvt_language.specs.Trees.{expr_of}
use Rattle.qvt_language.specs.Grammar.{NestedLanguages, pre, link, links, chain, flagged}
use Rattle.qvt_printer.specs.Expressions as print
use Rattle.qvt_printer.specs.Levels.{is_as_loose, is_chain}
use Rattle.qvt_readback_tokens.specs.Spelled.{all_spelled}
use Rattle.qvt_readback_trees.proofs.Spelling.{spelled_append, spelled_head}
use Rattle.qvt_readback_trees.proofs.Forms.{index_of, level_back, index_low, rank, operand_tight, Bracket, NeedsBracket, Form}
use Rattle.qvt_readback_trees.proofs.FormReads.{post_parts, post_reads, bracket_post, signed_reads}

abbrev first_place : List Tok → Place
first_place ts = head_of (λ t. t.place) nowhere ts

-- what is read by a chain is read by each looser one
module _ (p q : Language Tok Lead) where
  no_links : (k : ℕ) (l : Language Tok Lead) (x : Lead) → (links k l x).reads [] []
  no_links k l (Plain e t) = refl
  no_links k l (Bracketed e) = refl
  no_links k l (Each e part) = (tt, refl, refl)

  raise_one : (k : ℕ) (ts : List Tok) (x : Lead) → (chain k p q).reads ts x → (chain (suc k) p q).reads ts x
  unfolding chain
  raise_one k ts x rd = ((first_place ts, (x, [])), ((ts, [], sym (append-nil ts), rd, no_links k (chain k q q) x), refl), refl)

  raise_by : (d k m : ℕ) (ts : List Tok) (x : Lead) → m ≡ d + k → (chain k p q).reads ts x → (chain m p q).reads ts x
  raise_by zero k m ts x e rd = subst (λ z. (chain z p q).reads ts x) (let z : k ≡ m = omega arith in z) rd
  raise_by (suc d) k zero ts x e rd = absurd (omega arith)
  raise_by (suc d) k (suc m) ts x e rd = raise_one m ts x (raise_by d k m ts x (omega arith) rd)

  pub raise : (k m : ℕ) (ts : List Tok) (x : Lead) → k ≤ m → (chain k p q).reads ts x → (chain m p q).reads ts x
  raise k m ts x le rd = raise_by (m - k) k m ts x (omega arith) rd

rank_low : (e : ExprTerm) → rank e ≤ 8
rank_low (ChainExpr level first rest place) = index_low level
rank_low _ = omega arith

-- the lead is the expression, and no `forEach`
abbrev pub Shows : ExprTerm → Lead → Type 0
Shows d (Plain e t) = e ≡ d
Shows d (Bracketed e) = e ≡ d
Shows d (Each e part) = ⊥

pub shown_expr : (d : ExprTerm) (x : Lead) → Shows d x → expr_of x ≡ d
shown_expr d (Plain e t) q = q
shown_expr d (Bracketed e) q = q
shown_expr d (Each e part) q = absurd q

shown_links : (k : ℕ) (l : Language Tok Lead) (d : ExprTerm) (x : Lead) → Shows d x → (ts : List Tok) (ls : List LinkTerm) → turns (link k l) ts ls → (links k l x).reads ts ls
shown_links k l d (Plain e t) q ts ls rd = rd
shown_links k l d (Bracketed e) q ts ls rd = rd
shown_links k l d (Each e part) q ts ls rd = absurd q

-- the first operand of a chain: what it reads of expressions that are no chain, and of those in brackets
pub record Opens (i : NestedLanguages) (p : Language Tok Lead) (opens : ExprTerm → Bool) : Type 0 where
  pub form : (e : ExprTerm) → Form i e → is_chain e ≡ false → opens e ≡ false → (t : Option TargetTerm) × p.reads (all_spelled (print.expr e)) (Plain (erase_expr e) t)
  pub bracket : (e : ExprTerm) → Bracket i e → p.reads (all_spelled (print.in_round (print.expr e))) (Bracketed (erase_expr e))
  pub first : (level : Level) (e : ExprTerm) (rest : _) (place : Place) → opens (ChainExpr level e rest place) ≡ false → is_as_loose level e ≡ false → opens e ≡ false

module _ (i : NestedLanguages) (p : Language Tok Lead) (opens : ExprTerm → Bool) (o : Opens i p opens) where
  abbrev Chained : ExprTerm → Type 0
  Chained e = (t : Option TargetTerm) × (chain (rank e) p (pre i)).reads (all_spelled (print.expr e)) (Plain (erase_expr e) t)

  abbrev Operand : Level → ExprTerm → Bool → Type 0
  Operand level e b = (x : Lead) × (chain (index_of level) p (pre i)).reads (all_spelled (print.round_if b (print.expr e))) x × Shows (erase_expr e) x

  operand_at : (level : Level) (e : ExprTerm) (b : Bool) → is_as_loose level e ≡ b → NeedsBracket i b e → (b ≡ false → Chained e) → Operand level e b
  unfolding chain
  operand_at level e true q need w = (Bracketed (erase_expr e), raise p (pre i) 0 (index_of level) (all_spelled (print.in_round (print.expr e))) (Bracketed (erase_expr e)) (omega arith) (o.bracket e (need refl)), refl)
  operand_at level e false q need w = let z = w refl in (Plain (erase_expr e) z.0, raise p (pre i) (rank e) (index_of level) (all_spelled (print.expr e)) (Plain (erase_expr e) z.0) (operand_tight level e q) z.1, refl)

  not_chain : (e : ExprTerm) → Form i e → is_chain e ≡ false → opens e ≡ false → rank e ≡ 0 → Chained e
  unfolding chain
  not_chain e f q c r = let w = o.form e f q c in (w.0, subst (λ k. (chain k p (pre i)).reads (all_spelled (print.expr e)) (Plain (erase_expr e) w.0)) (sym r) w.1)

  pub chained : (e : ExprTerm) → Form i e → opens e ≡ false → Chained e
  unfolding chain
  chained (ChainExpr level first rest place) f c =
      let k = index_of level in
      let b = is_as_loose level first in
      let w = operand_at level first b refl f.1 (λ q. chained first f.0 (o.first level first rest place c q)) in
      let l = f.2 in
      let all = print.operand level first ++ print.links level rest in (
        None,
        (
          (nowhere, (w.0, l.0 ∷ l.1)),
          ((all_spelled (print.operand level first), all_spelled (print.links level rest), spelled_append (print.operand level first) (print.links level rest), w.1, shown_links k (chain k (pre i) (pre i)) (erase_expr first) w.0 w.2 (all_spelled (print.links level rest)) (l.0 ∷ l.1) l.3), sym (spelled_head all)),
          λ j. Plain (ChainExpr (sym (level_back level) j) (sym (shown_expr (erase_expr first) w.0 w.2) j) (sym l.2 j) nowhere) None,
        ),
      )
  chained e f c = not_chain e f refl c refl

  -- an operand of a chain of this level
  pub operand_reads : (level : Level) (e : ExprTerm) → Form i e → NeedsBracket i (is_as_loose level e) e → (is_as_loose level e ≡ false → opens e ≡ false) → Operand level e (is_as_loose level e)
  operand_reads level e f need c = operand_at level e (is_as_loose level e) refl need (λ q. chained e f (c q))

  pub whole_reads : (e : ExprTerm) → Form i e → opens e ≡ false → (t : Option TargetTerm) × (chain 8 p (pre i)).reads (all_spelled (print.expr e)) (Plain (erase_expr e) t)
  whole_reads e f c = let w = chained e f c in (w.0, raise p (pre i) (rank e) 8 (all_spelled (print.expr e)) (Plain (erase_expr e) w.0) (rank_low e) w.1)

-- the first operand anywhere, and at the front of a statement

abbrev pub anyhow : ExprTerm → Bool
anyhow e = false

module _ (i : NestedLanguages) where
  pre_form : (e : ExprTerm) → Form i e → is_chain e ≡ false → anyhow e ≡ false → (t : Option TargetTerm) × (pre i).reads (all_spelled (print.expr e)) (Plain (erase_expr e) t)
  unfolding pre
  pre_form (ChainExpr level first rest place) f q c = absurd cc
  pre_form (PrefixExpr before e place) f q c = (None, inl (signed_reads i before e place f))
  pre_form e f q c = let w = post_reads i e (post_parts i e f (λ z. absurd cc)) refl in (w.0, inr w.1)

  pub pre_opens : Opens i (pre i) anyhow
  unfolding pre
  pre_opens = record {
    form = pre_form;
    bracket = λ e w. inr (bracket_post i e w);
    first = λ level e rest place c q. refl;
  }

  pub flagged_reads : (e : ExprTerm) → Form i e → (t : Option TargetTerm) × (flagged i).reads (all_spelled (print.expr e)) (Plain (erase_expr e) t)
  unfolding flagged
  flagged_reads e f = whole_reads i (pre i) anyhow pre_opens e f refl

  -- an expression in brackets alone
  pub flagged_bracket : (e : ExprTerm) → Bracket i e → (flagged i).reads (all_spelled (print.in_round (print.expr e))) (Bracketed (erase_expr e))
  unfolding flagged chain pre
  flagged_bracket e w = raise (pre i) (pre i) 0 8 (all_spelled (print.in_round (print.expr e))) (Bracketed (erase_expr e)) (omega arith) (inr (bracket_post i e w))
