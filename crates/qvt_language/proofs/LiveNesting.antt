-- Expressions, blocks and types are live at each nesting.
use Rattle.std.proofs.Common.{◌≡◌, ℕ, zero, suc, List, [], ◌∷◌, ◌++◌, refl, sym, ◌∙◌, subst, append-nil, codes, Ok, pos, None}
use Rattle.qvt_grammar.specs.Language.{Language, never}
use Rattle.qvt_grammar.specs.Reader.{Exact}
use Rattle.qvt_grammar.proofs.Wider.{Sub}
use Rattle.qvt_grammar.proofs.Fronts.{Each}
use Rattle.qvt_tree_types.specs.Tree.{TypeTerm, IntExpr, PathType, StmtTerm}
use Rattle.qvt_language.specs.Tokens.{Tok, of}
use Rattle.qvt_words.specs.declared.class.Class.TheVariants.{Integer, Name, OpenBrace, CloseBrace}
use Rattle.qvt_language.specs.Readers.{nowhere}
use Rattle.qvt_language.specs.Firsts.{expr_next}
use Rattle.qvt_language.specs.Leads.{Lead, Plain}
use Rattle.qvt_language.specs.Grammar.{flagged, typed}
use Rattle.qvt_language.specs.Reading.{flagged_at, chain_at, pre_at, post_at, primary_at, other_primary_at, bare_expr_at, literal_at, typed_at, path_at, name_at, more_names_at}
use Rattle.qvt_language.specs.Statements.{block}
use Rattle.qvt_language.specs.ReadingStatements.{block_at, statements_at}
use Rattle.qvt_language.specs.Nesting.{nested, nested_at}
use Rattle.qvt_language.specs.Same.{IsSimple}
use Rattle.qvt_language.proofs.Live.{Live, LiveNested, sample, simple_sample}
use Rattle.qvt_language.proofs.EveryExprs.{k_typed}
use Rattle.qvt_language.proofs.EveryTower.{k_flagged}
use Rattle.qvt_language.proofs.EveryBlocks.{k_block}
use Rattle.qvt_language.proofs.GoodNesting.{good_same, good_nested}

-- nothing is read at no nesting, and its one front is completed by any list that m reads
from_nothing : {A : Type 0} {m : Language Tok A} → Sub never m → ((ts : List Tok) × (a : A) × m.reads ts a × Each IsSimple ts) → Live never m
from_nothing {m = m} s some = record {
  closed = record { front = λ ts v a rd. absurd rd };
  completes = record { within = s; some = some; whole = λ ts fr. (some.0, some.1, subst (λ z. m.reads (z ++ some.0) some.1) (sym fr) some.2, some.3) };
}

one_number : flagged_at (nested_at zero) (sample Integer ∷ []) ≡ Ok (Plain (IntExpr (pos 0) nowhere) None, [])
unfolding flagged_at chain_at pre_at post_at primary_at other_primary_at bare_expr_at literal_at
one_number = refl

one_name : typed_at (nested_at zero) (sample Name ∷ []) ≡ Ok (PathType (record { names = codes "a" ∷ []; place = nowhere }), [])
unfolding typed_at path_at name_at more_names_at
one_name = refl

no_statements : block_at (nested_at zero) (sample OpenBrace ∷ sample CloseBrace ∷ []) ≡ Ok ([], [])
unfolding block_at statements_at
no_statements = refl

-- the whole list, of which nothing is left
all_of : {A : Type 0} (l : Language Tok A) (ts u : List Tok) (a : A) → ts ≡ u ++ [] → l.reads u a → Each IsSimple ts → (us : List Tok) × (b : A) × l.reads us b × Each IsSimple us
all_of l ts u a e rd told = (ts, a, subst (λ z. l.reads z a) (sym (e ∙ append-nil u)) rd, told)

some_flagged : (ts : List Tok) × (a : Lead) × (flagged (nested zero)).reads ts a × Each IsSimple ts
some_flagged = let k = subst (Exact (of expr_next) (flagged (nested zero)) (sample Integer ∷ [])) one_number ((k_flagged (good_same zero)).loose.exact (sample Integer ∷ [])) in all_of (flagged (nested zero)) (sample Integer ∷ []) k.found.0 (Plain (IntExpr (pos 0) nowhere) None) k.found.1 k.found.2 (simple_sample Integer, tt)

some_typed : (ts : List Tok) × (a : TypeTerm) × (typed (nested zero)).reads ts a × Each IsSimple ts
some_typed = let k = subst (Exact (of (10 ∷ [])) (typed (nested zero)) (sample Name ∷ [])) one_name ((k_typed (good_same zero)).loose.exact (sample Name ∷ [])) in all_of (typed (nested zero)) (sample Name ∷ []) k.found.0 (PathType (record { names = codes "a" ∷ []; place = nowhere })) k.found.1 k.found.2 (simple_sample Name, tt)

some_block : (ts : List Tok) × (a : List StmtTerm) × (block (nested zero)).reads ts a × Each IsSimple ts
some_block = let k = subst (Exact (of []) (block (nested zero)) (sample OpenBrace ∷ sample CloseBrace ∷ [])) no_statements ((k_block (good_same zero)).loose.exact (sample OpenBrace ∷ sample CloseBrace ∷ [])) in all_of (block (nested zero)) (sample OpenBrace ∷ sample CloseBrace ∷ []) k.found.0 [] k.found.1 k.found.2 (simple_sample OpenBrace, (simple_sample CloseBrace, tt))

pub live_nested : (n : ℕ) → LiveNested (nested n) (nested (suc n)) (nested_at n)
unfolding nested nested_at
live_nested zero = record {
  flagged = from_nothing (good_nested zero).flagged.loose.sub some_flagged;
  block = from_nothing (good_nested zero).block.loose.sub some_block;
  kind = from_nothing (good_nested zero).kind.loose.sub some_typed;
}
live_nested (suc n) = record { flagged = k_flagged (live_nested n); block = k_block (live_nested n); kind = k_typed (live_nested n) }
