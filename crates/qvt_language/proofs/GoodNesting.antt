-- What the productions keep at each nesting.
use Rattle.std.proofs.Common.{ℕ, zero, suc, List, [], true, false, sym, subst, arith, Err}
use Rattle.qvt_grammar.specs.Language.{Language, never}
use Rattle.qvt_grammar.specs.Reader.{At, Consumes}
use Rattle.qvt_grammar.proofs.Firsts.{Solid}
use Rattle.qvt_grammar.proofs.Loops.{consumes_of}
use Rattle.qvt_language.specs.Tokens.{Tok, of}
use Rattle.qvt_language.specs.Readers.{Reader}
use Rattle.qvt_language.specs.Nesting.{nested, nested_at}
use Rattle.qvt_language.proofs.Forms.{Good, good_never}
use Rattle.qvt_language.proofs.Good.{GoodNested}
use Rattle.qvt_language.proofs.EveryExprs.{k_typed}
use Rattle.qvt_language.proofs.EveryTower.{k_flagged}
use Rattle.qvt_language.proofs.EveryBlocks.{k_block}

pub consumes : {A : Type 0} {n : ℕ} {early : _} {first next : List ℕ} {l m : Language Tok A} {f : Reader A} → Good n early first next l m f → Consumes f
consumes {next = next} {l = l} {f = f} k = consumes_of (of next) l f k.solid k.loose.exact

-- one more nesting is no longer counted as a token of its own
raised : {A : Type 0} {n : ℕ} {first next : List ℕ} {l m : Language Tok A} {f : Reader A} → Good n true first next l m f → Good (suc n) false first next l m f
raised k = record { loose = record { firsts = k.loose.firsts; exact = k.loose.exact; sub = k.loose.sub; low = record { reads = k.loose.low.reads; front = k.loose.low.front } }; solid = k.solid; solid_more = k.solid_more }

-- nothing beside what is read at one nesting
lowest : {A : Type 0} {first next : List ℕ} {m : Language Tok A} → m.front [] → Solid m → Good zero false first next never m (λ ts. Err (At ts))
lowest {first = first} {next = next} {m = m} e s = let k = good_never {n = zero} {early = false} first next in record {
  loose = record {
    firsts = k.loose.firsts;
    exact = k.loose.exact;
    sub = record { reads = λ ts a rd. absurd rd; front = λ ts fr. subst m.front (sym fr) e };
    low = record { reads = λ ts a lt rd. absurd (omega arith); front = λ ts lt fr. absurd (omega arith) };
  };
  solid = k.solid;
  solid_more = s;
}

pub good_same : (n : ℕ) → GoodNested n (nested n) (nested n) (nested_at n)
unfolding nested nested_at
good_same zero = record { flagged = good_never _ _; block = good_never _ _; kind = good_never _ _ }
good_same (suc n) = record { flagged = raised (k_flagged (good_same n)); block = raised (k_block (good_same n)); kind = raised (k_typed (good_same n)) }

pub good_nested : (n : ℕ) → GoodNested n (nested n) (nested (suc n)) (nested_at n)
unfolding nested nested_at
good_nested zero = record {
  flagged = (let k = k_flagged (good_same zero) in lowest k.loose.firsts.empty k.solid);
  block = (let k = k_block (good_same zero) in lowest k.loose.firsts.empty k.solid);
  kind = (let k = k_typed (good_same zero) in lowest k.loose.firsts.empty k.solid);
}
good_nested (suc n) = record { flagged = raised (k_flagged (good_nested n)); block = raised (k_block (good_nested n)); kind = raised (k_typed (good_nested n)) }
