-- The productions at each nesting.
use Rattle.std.specs.Prelude.{ℕ, zero, suc, Err}
use Rattle.qvt_grammar.specs.Language.{never}
use Rattle.qvt_grammar.specs.Reader.{At}
use Rattle.qvt_language.specs.Grammar.{NestedLanguages, flagged, typed}
use Rattle.qvt_language.specs.Reading.{NestedAt, flagged_at, typed_at}
use Rattle.qvt_language.specs.Statements.{block}
use Rattle.qvt_language.specs.ReadingStatements.{block_at}

-- expressions, blocks and types with fewer than n of them inside each other
unfoldable pub nested : ℕ → NestedLanguages
nested zero = record { flagged = never; block = never; kind = never }
nested (suc n) = record { flagged = flagged (nested n); block = block (nested n); kind = typed (nested n) }

unfoldable pub nested_at : ℕ → NestedAt
nested_at zero = record { flagged = λ ts. Err (At ts); block = λ ts. Err (At ts); kind = λ ts. Err (At ts) }
nested_at (suc n) = record { flagged = flagged_at (nested_at n); block = block_at (nested_at n); kind = typed_at (nested_at n) }
