-- What is read in the loops of expressions and statements takes a token.
use Rattle.std.proofs.Common.{ℕ, zero, List, refl, Bool, subst}
use Rattle.qvt_grammar.specs.Language.{Language}
use Rattle.qvt_grammar.proofs.Repeats.{read_less}
use Rattle.qvt_language.specs.Tokens.{Tok, of}
use Rattle.qvt_grammar.proofs.Valued.{ExactV}
use Rattle.qvt_language.proofs.ValuedForms.{GoodV}
use Rattle.qvt_language.proofs.EveryBlocks.{v_statement as goodv_statement}
use Rattle.qvt_language.proofs.EveryExprs.{k_expr as good_expr, k_item as good_item, k_step as good_step, k_pre as good_pre}
use Rattle.qvt_language.proofs.Good.{good_sign, good_link, good_chain}
use Rattle.qvt_language.proofs.EveryStmts.{k_lead_step as good_lead_step, k_arm as good_arm}
use Rattle.qvt_grammar.specs.Reader.{Consumes, made_at, then_at}
use Rattle.qvt_language.specs.declared.class.Class.TheVariants.{Comma}
use Rattle.qvt_language.specs.Readers.{Reader, the_at}
use Rattle.qvt_language.specs.Firsts.{expr_first, post_next}
use Rattle.qvt_language.specs.Trees.{second}
use Rattle.qvt_language.specs.Reading.{expr_at, item_at, step_at, sign_at, link_at, chain_at, pre_at, lead_step_at}
use Rattle.qvt_language.specs.ReadingStatements.{arm_at, statement_at}
use Rattle.qvt_language.specs.Nesting.{nested_at}
use Rattle.qvt_language.proofs.Forms.{good_the, good_made, good_then, good_sets}
use Rattle.qvt_language.proofs.GoodNesting.{consumes, good_same}

pub less_expr : (n : ℕ) → Consumes (made_at second (then_at (the_at Comma) (expr_at (nested_at n))))
less_expr n = consumes (good_made second (good_then (good_the Comma) (good_expr (good_same n)) refl))

pub less_item : (n : ℕ) → Consumes (made_at second (then_at (the_at Comma) (item_at (nested_at n))))
less_item n = consumes (good_made second (good_then (good_the Comma) (good_item (good_same n)) refl))

pub less_step : (n : ℕ) → Consumes (step_at (nested_at n))
less_step n = consumes (good_step (good_same n))

pub less_sign : Consumes sign_at
less_sign = consumes {n = zero} good_sign

pub less_link : (k n : ℕ) → Consumes (link_at k (chain_at k (pre_at (nested_at n)) (pre_at (nested_at n))))
less_link k n = let q = good_sets expr_first post_next refl refl (good_pre (good_same n)) in consumes (good_link k (good_chain k expr_first q q))

pub less_arm : (n : ℕ) → Consumes (arm_at (nested_at n))
less_arm n = consumes (good_arm (good_same n))

pub less_lead_step : (n : ℕ) → Consumes (lead_step_at (nested_at n))
less_lead_step n = consumes (good_lead_step (good_same n))

less_valued : {A : Type 0} {n : ℕ} {early : Bool} {first : List ℕ} {next : A → List ℕ} {l m : Language Tok A} {f : Reader A} → GoodV n early first next l m f → Consumes f
less_valued {next = next} {l = l} {f = f} g ts a r e =
    let k = subst (ExactV (λ x. of (next x)) l ts) e (g.loose.exact ts) in
    read_less l g.solid ts k.found.0 r a k.found.1 k.found.2

pub less_statement : (n : ℕ) → Consumes (statement_at (nested_at n))
less_statement n = less_valued (goodv_statement (good_same n))
