-- Tokens that some text has.
use Rattle.std.specs.Prelude.{◌++◌, ℕ, List, map}
use Rattle.qvt_base.specs.declared.numbers.Place.{Place}
use Rattle.qvt_language.specs.Tokens.{Tok}
use Rattle.qvt_language.specs.Same.{unplaced, AllSimple}
use Rattle.qvt_parser_tokens.specs.Text.{HasTokens}
use Rattle.qvt_readback_tokens.specs.Law.{HasSpelled}

-- a text has these tokens, but for their places
pub record AreSpelled (ts : List Tok) : Type 0 where
  pub text : List ℕ
  pub has : HasSpelled text (map unplaced ts)

-- the first tokens of a text, and after them tokens that say as little as they can, are the tokens of some text
abbrev pub SimpleGoOn : Type 0
SimpleGoOn = (text : List ℕ) (before rest : List Tok) (end : Place) → HasTokens text (before ++ rest) end → (v : List Tok) → AllSimple v → AreSpelled (before ++ v)
