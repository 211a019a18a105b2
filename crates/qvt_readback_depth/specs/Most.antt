-- How many items are open at once: the greatest length of the list of open items.
use Rattle.std.specs.Prelude.{ℕ, Bool, false, List, [], ◌∷◌, length, if◌then◌else◌, nat_le}
use Rattle.qvt_language.specs.Tokens.{Tok}
use Rattle.qvt_parser_tokens.specs.declared.depth.Open.{Open}
use Rattle.qvt_parser_tokens.specs.Depth.{after, begins_statement}

abbrev pub greater : ℕ → ℕ → ℕ
greater a b = if nat_le a b then b else a

abbrev pub most_from : Bool → List Open → List Tok → ℕ
most_from fresh items [] = 0
most_from fresh items (t ∷ ts) = greater (length (after fresh items t.class)) (most_from (begins_statement t.class) (after fresh items t.class) ts)

abbrev pub most : List Tok → ℕ
most = most_from false []
