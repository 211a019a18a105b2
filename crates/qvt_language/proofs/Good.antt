-- Exactness is kept by the forms of the grammar: it holds of every production, with its reader.
use Rattle.std.proofs.Common.{ℕ, zero, suc, List, [], ◌∷◌, true, arith}
use Rattle.qvt_grammar.specs.Language.{Language}
use Rattle.qvt_language.specs.Tokens.{Tok}
use Rattle.qvt_language.specs.Readers.{Reader}
use Rattle.qvt_language.specs.Firsts.{stmt_first, expr_first, post_next}
use Rattle.qvt_language.specs.Levels.{next_at}
use Rattle.qvt_language.specs.Leads.{Lead}
use Rattle.qvt_language.specs.Grammar.{NestedLanguages, name, path, sign, operator, link, chain}
use Rattle.qvt_language.specs.Reading.{NestedAt, name_at, path_at, sign_at, operators, operator_at, link_at, chain_at}
use Rattle.qvt_language.specs.Statements.{statements}
use Rattle.qvt_language.specs.ReadingStatements.{statements_at}
use Rattle.qvt_language.specs.Units.{model_type, model_param}
use Rattle.qvt_language.specs.ReadingUnits.{model_type_at, model_param_at}
use Rattle.qvt_language.proofs.Every.{Forms, Inside}
use Rattle.qvt_language.proofs.EveryExprs.{k_name, k_path, k_sign}
use Rattle.qvt_language.proofs.EveryTower.{k_operator, k_link, k_chain}
use Rattle.qvt_language.proofs.EveryBlocks.{stmts_next, k_statements}
use Rattle.qvt_language.proofs.EveryUnits.{k_model_type, k_model_param}
use Rattle.qvt_language.proofs.Forms.{Loose, Kept, Good, good_the, good_strictness, good_empty, good_wider, good_made, good_placed, good_maybe, good_many, good_then, good_follow, good_either, good_barring, good_never}
use Rattle.qvt_language.proofs.ValuedForms.{KeptV, goodv_of, good_all, goodv_sets, goodv_made, goodv_placed, goodv_maybe, goodv_either, goodv_follow, goodv_then, goodv_series, good_finished}

-- no more is kept of what is barred
abbrev pub good_forms : (n : ℕ) → Forms (Kept n) (Kept n) (KeptV n)
good_forms n = record {
  token = good_the;
  strict = good_strictness;
  no_token = good_empty;
  wider = good_wider;
  gives = good_made;
  at = good_placed;
  perhaps = good_maybe;
  turns = good_many;
  both = good_then;
  depending = good_follow;
  one_of = good_either;
  barred = good_barring;
  barred_gives = good_made;
  barred_depending = good_follow;
  barred_perhaps = good_maybe;
  valued = goodv_of;
  alike = good_all;
  value_wider = goodv_sets;
  value_gives = goodv_made;
  value_at = goodv_placed;
  value_perhaps = goodv_maybe;
  value_one_of = goodv_either;
  value_depending = goodv_follow;
  value_both = goodv_then;
  turns_of = goodv_series;
  last_of = λ p c1 c2 w a k q h. good_finished p c1 c2 w a k;
}

abbrev pub GoodNested : ℕ → NestedLanguages → NestedLanguages → NestedAt → Type 0
GoodNested n i j r = Inside (good_forms n) i j r

-- what holds with nothing nested inside, and of chains at any level

pub good_name : {n : ℕ} → Good n true (0 ∷ []) [] name name name_at
good_name {n = n} = k_name (good_forms n)

pub good_path : {n : ℕ} → Good n true (0 ∷ []) (10 ∷ []) path path path_at
good_path {n = n} = k_path (good_forms n)

pub good_sign : {n : ℕ} → Good n true (25 ∷ 62 ∷ []) [] sign sign sign_at
good_sign {n = n} = k_sign (good_forms n)

pub good_model_type : {n : ℕ} → Good n true (60 ∷ []) [] model_type model_type model_type_at
good_model_type {n = n} = k_model_type (good_forms n)

pub good_model_param : {n : ℕ} → Good n true (45 ∷ 48 ∷ 67 ∷ []) [] model_param model_param model_param_at
good_model_param {n = n} = k_model_param (good_forms n)

pub good_operator : {n : ℕ} (k : ℕ) → Good n true (operators k) [] (operator k) (operator k) (operator_at k)
good_operator {n = n} zero = k_operator (good_forms n) 0 (omega arith)
good_operator {n = n} (suc zero) = k_operator (good_forms n) 1 (omega arith)
good_operator {n = n} (suc (suc zero)) = k_operator (good_forms n) 2 (omega arith)
good_operator {n = n} (suc (suc (suc zero))) = k_operator (good_forms n) 3 (omega arith)
good_operator {n = n} (suc (suc (suc (suc zero)))) = k_operator (good_forms n) 4 (omega arith)
good_operator {n = n} (suc (suc (suc (suc (suc zero))))) = k_operator (good_forms n) 5 (omega arith)
good_operator {n = n} (suc (suc (suc (suc (suc (suc zero)))))) = k_operator (good_forms n) 6 (omega arith)
good_operator {n = n} (suc (suc (suc (suc (suc (suc (suc zero))))))) = k_operator (good_forms n) 7 (omega arith)
good_operator (suc (suc (suc (suc (suc (suc (suc (suc k)))))))) = good_never [] []

pub good_link : {n : ℕ} (k : ℕ) {l l2 : Language Tok Lead} {f : Reader Lead} → Good n true expr_first (next_at k) l l2 f → Good n true (operators k) (next_at k) (link k l) (link k l2) (link_at k f)
good_link {n = n} k q = k_link (good_forms n) k (good_operator k) q

pub good_chain : {n : ℕ} (k : ℕ) (first : List ℕ) {p p2 q q2 : Language Tok Lead} {f g : Reader Lead} → Good n true first post_next p p2 f → Good n true expr_first post_next q q2 g
    → Good n true first (next_at k) (chain k p q) (chain k p2 q2) (chain_at k f g)
good_chain {n = n} k first hp hq = k_chain (good_forms n) k (λ m lt. good_operator m) first hp hq

pub loose_statements : {n : ℕ} {i j : NestedLanguages} {r : NestedAt} → GoodNested n i j r → Loose n true stmt_first stmts_next (statements i) (statements j) (statements_at r)
loose_statements h = (k_statements h).loose
