-- What the code's scan says of the characters and of the bytes.
use Rattle.std.specs.Prelude.{◌≡◌, ℕ, List, Ok, Err}
use Rattle.std.specs.Str.{chars}
use Rattle.qvt_lexer.specs.Ends.{IsEndOf}
use Rattle.qvt_lexer.specs.Scan as reader
use Rattle.qvt_lexer.specs.declared.scan.Scan as code
use Rattle.qvt_lexer.specs.declared.scan.Scan.TheVariants.{Found, Fault}

-- the scan is this one of the characters
abbrev pub GivesScan : code.Scan → reader.Scan → Type 0
GivesScan (Found piece rest) scan = scan ≡ Ok (piece, chars rest.now)
GivesScan (Fault kind rest) scan = scan ≡ Err (kind, chars rest.now)

-- what it leaves is an end of the text
abbrev pub StaysInText : List ℕ → code.Scan → Type 0
StaysInText text (Found piece rest) = IsEndOf text rest.now
StaysInText text (Fault kind rest) = IsEndOf text rest.now
