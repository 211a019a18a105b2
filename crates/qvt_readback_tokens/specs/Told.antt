-- Tokens that a text can say: their names are names, their numbers are not too large, their texts are characters.
use Rattle.std.specs.Prelude.{◌≡◌, ◌≤◌, ℕ, ℤ, pos, IsTrue, List, [], ◌∷◌}
use Rattle.std.specs.Str.{encode_utf8_all}
use Rattle.qvt_lexer.specs.Literals.{greatest_number}
use Rattle.qvt_lexer.specs.Pieces.{IsPlainName}
use Rattle.qvt_language.specs.Tokens.{Tok, is}
use Rattle.qvt_language.specs.declared.class.Class.TheVariants.{Name, Integer, Str}

-- the bytes of a name as it is written, reserved or not
abbrev pub IsName : List ℕ → Type 0
IsName n = (u : List ℕ) × (n ≡ encode_utf8_all u) × IsPlainName u

abbrev pub IsEncoded : List ℕ → Type 0
IsEncoded t = (u : List ℕ) × (t ≡ encode_utf8_all u)

abbrev pub IsSmall : ℤ → Type 0
IsSmall v = (n : ℕ) × (v ≡ pos n) × (n ≤ greatest_number)

pub record IsTold (t : Tok) : Type 0 where
  pub name : IsTrue (is Name t) → IsName t.text
  pub integer : IsTrue (is Integer t) → IsSmall t.number
  pub text : IsTrue (is Str t) → IsEncoded t.text

abbrev pub AllTold : List Tok → Type 0
AllTold [] = Unit {0}
AllTold (t ∷ ts) = IsTold t × AllTold ts
