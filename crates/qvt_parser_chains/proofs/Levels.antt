-- A chain level by level.
use Rattle.std.proofs.Common.{◌≡◌, ◌≤◌, ◌<◌, ◌+◌, ◌-◌, ℕ, zero, false, suc, List, refl, sym, ap, ◌∙◌, subst, arith, Result, Ok, Err, IsErrAnd}
use Rattle.qvt_base.specs.declared.numbers.Place.{Place}
use Rattle.qvt_grammar.specs.Language.{head_of}
use Rattle.qvt_grammar.proofs.Loops.{many_stop}
use Rattle.qvt_results.specs.Bind.{◌>>=◌}
use Rattle.qvt_grammar.specs.Reader.{At, Fault, Answer, starts, Consumes}
use Rattle.qvt_tree_types.specs.Tree.{LinkTerm}
use Rattle.qvt_language.specs.Grammar.{level_of}
use Rattle.qvt_parser_exprs.specs.declared.leading.Leading.{Leading}
use Rattle.qvt_parser_grammar.specs.Gives.{Gives}
use Rattle.qvt_language.specs.Leads.{Lead, Plain, Bracketed, Each}
use Rattle.qvt_language.specs.Readers.{Reader, nowhere}
use Rattle.qvt_language.specs.Reading.{chain_at, links_at, link_at, operators}
use Rattle.qvt_language.specs.Tokens.{Tok, of}
use Rattle.qvt_language.specs.Trees.{chain_of}
use Rattle.qvt_parser_grammar.specs.declared.cursor.ParseError.{ParseError}
use Rattle.qvt_parser_grammar.specs.declared.cursor.ParseError.TheVariants.{NoMemory, Syntax}
use Rattle.qvt_parser_exprs.specs.Views.{lead_view}
use Rattle.qvt_parser_chains.specs.Raised.{linked, raised_at}

abbrev paired : Lead → Answer Tok (List LinkTerm) → Answer Tok (Lead × List LinkTerm)
paired lead x = x >>= λ (rest, r). Ok ((lead, rest), r)

abbrev marked : Place → Answer Tok (Lead × List LinkTerm) → Answer Tok (Place × (Lead × List LinkTerm))
marked place x = x >>= λ (both, r). Ok ((place, both), r)

abbrev chained : ℕ → Answer Tok (Place × (Lead × List LinkTerm)) → Answer Tok Lead
chained k x = x >>= λ (all, r). Ok (chain_of (level_of k) all, r)

abbrev joined : ℕ → Place → Lead → Answer Tok (List LinkTerm) → Answer Tok Lead
joined k place lead x = x >>= λ (rest, r). Ok (linked k place lead rest, r)

abbrev after_first : (k : ℕ) (g : Reader Lead) → Answer Tok Lead → Answer Tok (Lead × List LinkTerm)
after_first k g x = x >>= λ (lead, r). paired lead (links_at k (chain_at k g g) lead r)

joins : (k : ℕ) (place : Place) (lead : Lead) (x : Answer Tok (List LinkTerm)) → chained k (marked place (paired lead x)) ≡ joined k place lead x
joins k place lead (Ok (rest, r)) = refl
joins k place lead (Err e) = refl

-- after what is read of the tighter levels stand the operands of the next
chain_goes_on : (k : ℕ) (f g : Reader Lead) (ts r : List Tok) (lead : Lead) → chain_at k f g ts ≡ Ok (lead, r) → chain_at (suc k) f g ts ≡ raised_at k g (head_of (λ t. t.place) nowhere ts) lead r
unfolding chain_at
chain_goes_on k f g ts r lead e = let place = head_of (λ t. t.place) nowhere ts in ap (λ x. chained k (marked place (after_first k g x))) e ∙ joins k place lead (links_at k (chain_at k g g) lead r)

one_more : (k : ℕ) (f g : Reader Lead) (ts : List Tok) (fault : Fault Tok) → chain_at k f g ts ≡ Err fault → chain_at (suc k) f g ts ≡ Err fault
unfolding chain_at
one_more k f g ts fault e = ap (λ x. chained k (marked (head_of (λ t. t.place) nowhere ts) (after_first k g x))) e

-- a fault of the tighter levels is one of all
chain_faults : (more k n : ℕ) (f g : Reader Lead) (ts : List Tok) (fault : Fault Tok) → n ≡ k + more → chain_at k f g ts ≡ Err fault → chain_at n f g ts ≡ Err fault
chain_faults zero k n f g ts fault h e = subst (λ z. chain_at z f g ts ≡ Err fault) (let q : k ≡ n = omega (arith, h) in q) e
chain_faults (suc more) k n f g ts fault h e = chain_faults more (suc k) n f g ts fault (omega (arith, h)) (one_more k f g ts fault e)

pub no_level : (f g : Reader Lead) (ts r : List Tok) (lead : Lead) → f ts ≡ Ok (lead, r) → chain_at 0 f g ts ≡ Ok (lead, r)
unfolding chain_at
no_level f g ts r lead e = e

-- what is read of n levels, where all of them are
pub all_levels : (k n : ℕ) (f g : Reader Lead) (ts r : List Tok) (lead : Lead) → n ≤ k → k ≤ n → chain_at k f g ts ≡ Ok (lead, r) → chain_at n f g ts ≡ Ok (lead, r)
all_levels k n f g ts r lead h j e = subst (λ z. chain_at z f g ts ≡ Ok (lead, r)) (let q : k ≡ n = omega (arith, h, j) in q) e

-- where no operator of a level is next, nothing of it is read
pub unread : (k : ℕ) (g : Reader Lead) → Consumes (link_at k (chain_at k g g)) → (place : Place) (lead : Lead) (r : List Tok) → starts (of (operators k)) r ≡ false → raised_at k g place lead r ≡ Ok (lead, r)
unread k g less place (Plain e target) r h = ap (joined k place (Plain e target)) (many_stop (of (operators k)) (link_at k (chain_at k g g)) less r h)
unread k g less place (Bracketed e) r h = ap (joined k place (Bracketed e)) (many_stop (of (operators k)) (link_at k (chain_at k g g)) less r h)
unread k g less place (Each e part) r h = refl

module _ (k : ℕ) (f g : Reader Lead) (ts r : List Tok) (lead : Lead) (place : Place) (begins : place ≡ head_of (λ t. t.place) nowhere ts) (so_far : chain_at k f g ts ≡ Ok (lead, r)) where
  goes_on : chain_at (suc k) f g ts ≡ raised_at k g place lead r
  goes_on = chain_goes_on k f g ts r lead so_far ∙ ap (λ z. raised_at k g z lead r) (sym begins)

  pub next_level : (n : ℕ) (more : Lead) (s : List Tok) → n ≡ k + 1 → raised_at k g place lead r ≡ Ok (more, s) → chain_at n f g ts ≡ Ok (more, s)
  next_level n more s h e = subst (λ z. chain_at z f g ts ≡ Ok (more, s)) (let q : suc k ≡ n = omega (arith, h) in q) (goes_on ∙ e)

  pub faulty_level : (n : ℕ) (rest : List Tok) (fault : ParseError) → k < n → Gives {X = Leading} lead_view (Err fault) rest (raised_at k g place lead r) → Gives {X = Leading} lead_view (Err fault) rest (chain_at n f g ts)
  faulty_level n rest NoMemory h e = tt
  faulty_level n rest Syntax h e = chain_faults (n - suc k) (suc k) n f g ts (At rest) (omega (arith, h)) (goes_on ∙ e)

no_levels_fault : (n : ℕ) (f g : Reader Lead) (ts rest : List Tok) (fault : ParseError) → Gives {X = Leading} lead_view (Err fault) rest (f ts) → Gives {X = Leading} lead_view (Err fault) rest (chain_at n f g ts)
unfolding chain_at
no_levels_fault n f g ts rest NoMemory h = tt
no_levels_fault n f g ts rest Syntax h = chain_faults n 0 n f g ts (At rest) (omega arith) h

-- a fault of the first operand is one of all
pub first_fault : (n : ℕ) (f g : Reader Lead) (ts rest : List Tok) (fault : ParseError) (r : Result (Leading) ParseError) → IsErrAnd r (λ e. e ≡ fault) → Gives {X = Leading} lead_view (Err fault) rest (f ts) → Gives lead_view r rest (chain_at n f g ts)
first_fault n f g ts rest fault (Ok x) h k = absurd h
first_fault n f g ts rest fault (Err e) h k = subst (λ z. Gives {X = Leading} lead_view (Err z) rest (chain_at n f g ts)) (sym h) (no_levels_fault n f g ts rest fault k)
