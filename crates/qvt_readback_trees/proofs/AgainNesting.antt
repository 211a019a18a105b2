-- Expressions, blocks and types are read again at each nesting.
use Rattle.std.proofs.Common.{ℕ, zero, suc, List, [], ◌∷◌, Bool, true, inl, inr, refl, Some, arith}
use Rattle.qvt_tree_types.specs.Tree.{ExprTerm, LinkTerms, StepTerms, BareTarget, PathExpr, IfExpr, ChainExpr, PrefixExpr, PostExpr}
use Rattle.qvt_tree_types.specs.declared.words.Level.{Level}
use Rattle.qvt_tree.specs.Shape.{nowhere}
use Rattle.qvt_grammar.proofs.Wider.{sub_turns}
use Rattle.qvt_language.specs.Firsts.{expr_first, post_next}
use Rattle.qvt_language.specs.Leads.{Plain}
use Rattle.qvt_language.specs.Trees.{expr_of}
use Rattle.qvt_language.specs.Grammar.{NestedLanguages, name, more_names, named_expr, bare_expr, other_primary, primary, post, pre, chain, flagged}
use Rattle.qvt_language.specs.Nesting.{nested}
use Rattle.qvt_language.proofs.Forms.{good_sets}
use Rattle.qvt_language.proofs.EveryExprs.{k_bare_expr as good_bare_expr, k_if_expr as good_if_expr, k_step as good_step, k_pre as good_pre}
use Rattle.qvt_language.proofs.Good.{good_link, good_chain}
use Rattle.qvt_language.proofs.GoodNesting.{good_nested}
use Rattle.qvt_readback_trees.proofs.Spelling.{plain_name}
use Rattle.qvt_readback_trees.proofs.AgainNames.{again_typed}
use Rattle.qvt_readback_trees.proofs.AgainExprs.{AgainNested}
use Rattle.qvt_readback_trees.proofs.Forms.{index_of, NeedsBracket, LinksForm, StepsForm, Form}
use Rattle.qvt_readback_trees.proofs.ChainReads.{raise, flagged_reads, flagged_bracket}
use Rattle.qvt_readback_trees.proofs.Read.{flagged_good, bracket_good}
use Rattle.qvt_readback_trees.proofs.Statements.{block_good, block_again}

-- with one more nesting each form is as it was

module _ (n : ℕ) where
  more_bracket : (b : Bool) (e : ExprTerm) → NeedsBracket (nested n) b e → NeedsBracket (nested (suc n)) b e
  more_bracket b e need q = let w = need q in (w.0, (good_nested n).flagged.loose.sub.reads _ _ w.1)

  more_links : (level : Level) (rest : LinkTerms) → LinksForm (nested n) level rest → LinksForm (nested (suc n)) level rest
  more_links level rest f =
      let q = good_sets expr_first post_next refl refl (good_pre (good_nested n)) in
      let k = index_of level in
      (f.0, f.1, f.2, sub_turns _ _ (good_link k (good_chain k expr_first q q)).loose.sub (f.0 ∷ f.1) _ f.3)

  more_steps_form : (ss : StepTerms) → StepsForm (nested n) ss → StepsForm (nested (suc n)) ss
  more_steps_form ss f = (f.0, f.1, f.2, sub_turns _ _ (good_step (good_nested n)).loose.sub (f.0 ∷ f.1) _ f.3)

  more_form : (e : ExprTerm) → Form (nested n) e → Form (nested (suc n)) e
  more_form (IfExpr condition one_value other place) f = (good_if_expr (good_nested n)).loose.sub.reads _ _ f
  more_form (ChainExpr level first rest place) f = (more_form first f.0, more_bracket _ first f.1, more_links level rest f.2)
  more_form (PrefixExpr signs e place) f = (more_form e f.0, more_bracket _ e f.1, f.2, f.3)
  more_form (PostExpr first steps place) f = (more_form first f.0, more_bracket _ first f.1, f.2, more_steps_form steps f.3)
  more_form _ f = (good_bare_expr (good_nested n)).loose.sub.reads _ _ f

-- a name alone is an expression and a target
name_flagged : (i : NestedLanguages) (n : List ℕ) → (flagged i).reads (plain_name n ∷ []) (Plain (PathExpr (record { names = n ∷ []; place = nowhere })) (Some (BareTarget n nowhere)))
unfolding flagged chain pre post primary other_primary bare_expr named_expr name more_names
name_flagged i n =
    let e = PathExpr (record { names = n ∷ []; place = nowhere }) in
    let ts = plain_name n ∷ [] in
    let path : (other_primary i).reads ts (e, true) = inr (e, inr (inr (inl ((record { text = n; place = nowhere }, inr []), (ts, [], refl, (plain_name n, (refl, refl), refl), inr ([], refl, refl)), refl))), refl) in
    raise (pre i) (pre i) 0 8 ts (Plain e (Some (BareTarget n nowhere))) (omega arith) (inr ((nowhere, ((e, true), [])), ((ts, [], refl, inr path, refl), refl), refl))

pub again_nested : (n : ℕ) → AgainNested (nested n)
unfolding nested
again_nested zero = record {
  flagged = λ ts x rd o. absurd rd;
  bracketed = λ ts e rd o. absurd rd;
  names = λ ts x rd n. absurd rd;
  block = record { again = λ ts a rd o. absurd rd };
  kind = record { again = λ ts a rd o. absurd rd };
}
again_nested (suc n) =
    let h = again_nested n in
    record {
      flagged = λ ts x rd o. (let f = flagged_good h ts x rd o in record { bracket = flagged_reads (nested n) (expr_of x) f; form = more_form n (expr_of x) f });
      bracketed = λ ts e rd o. flagged_bracket (nested n) e (bracket_good h ts e rd o);
      names = λ ts x rd m. name_flagged (nested n) m;
      block = record { again = λ ts ss rd o. block_again (nested n) ss (block_good h ts ss rd) o };
      kind = again_typed (nested n) h.kind;
    }
