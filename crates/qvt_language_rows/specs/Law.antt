-- The laws that the rows of the grammar are what the parser's productions read, and that a start symbol does not look at places.
use Rattle.std.specs.Prelude.{List, ◌↔◌}
use Rattle.qvt_language.specs.Tokens.{Tok}
use Rattle.qvt_language.specs.Same.{SameTokens}
use Rattle.qvt_language.specs.Module.{Start, ReadsFrom, FrontFrom, FaultFrom}
use Rattle.qvt_language_rows.specs.Phrase.{Phrase}
use Rattle.qvt_language_rows.specs.Rows.{NestedRows}
use Rattle.qvt_language_rows.specs.Language.{Is, BeginsRow, HasFault}

-- a row and a start symbol of the parser's grammar have the same lists, as the same values, the same beginnings and the same
-- faults
pub record AreOne {A : Type 0} (row : NestedRows → Phrase A) (start : Start A) : Type 0 where
  pub read : (ts : List Tok) (a : A) → Is row ts a ↔ ReadsFrom start ts a
  pub begun : (ts : List Tok) → BeginsRow row ts ↔ FrontFrom start ts
  pub faulty : (ts rest : List Tok) → HasFault row ts rest ↔ FaultFrom start ts rest

pub record LooksAtNoPlace {A : Type 0} (start : Start A) : Type 0 where
  -- the same tokens are read wherever they stand
  pub reads : (ts us : List Tok) (a : A) → SameTokens ts us → ReadsFrom start ts a → (b : A) × ReadsFrom start us b
  -- and are a front wherever they stand
  pub front : (ts us : List Tok) → SameTokens ts us → FrontFrom start ts → FrontFrom start us
