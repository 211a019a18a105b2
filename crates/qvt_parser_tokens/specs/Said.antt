-- What a token of the text says to the grammar: of a name the name without quotes, of a string its characters, of an integer
-- its number.
use Rattle.std.specs.Prelude.{ℕ, zero, suc, ◌-◌, ℤ, pos, Bool, ◌&&◌, ◌==◌, nat_le, List, [], ◌∷◌, length, Some, None, unwrap_or, slice_index, slice_range, if◌then◌else◌}
use Rattle.std.specs.Str.{chars, encode_utf8_all}
use Rattle.qvt_lexer.specs.Literals.{number_of, item_at}
use Rattle.qvt_lexer.specs.Division.{TokenData}
use Rattle.qvt_lexer.specs.declared.token.TokenKind.{TokenKind}
use Rattle.qvt_lexer.specs.declared.token.TokenKind.TheVariants.{Name, Integer, Str, Word, Symbol}
use Rattle.qvt_language.specs.Tokens.{Tok}
use Rattle.qvt_language.specs.declared.class.Class as class
use Rattle.qvt_language.specs.declared.class.Class.TheVariants as classes
use Rattle.qvt_words.specs.Words.{word_of, sign_of}

-- whether a name stands in `_'..'`
abbrev pub is_quoted : List ℕ → Bool
is_quoted text = nat_le 3 (length text) && (slice_index text 0 == 95) && (slice_index text 1 == 39) && (slice_index text (length text - 1) == 39)

-- the name between `_'` and `'`, or as it is written
abbrev pub name_of : List ℕ → List ℕ
name_of text = if is_quoted text then slice_range text 2 (length text - 1) else text

-- the characters that n items at most stand for, one item after the other
abbrev pub items : ℕ → ℕ → List ℕ → List ℕ
items zero q cs = []
items (suc n) q cs = elim (item_at q cs) [ None ↦ [] | Some x ↦ x.0 ∷ items n q x.1 ]

-- the characters that all items stand for, as far as there are any
abbrev pub content : ℕ → List ℕ → List ℕ
content q cs = items (length cs) q cs

-- the characters of a string, by what is written: its first character is the quote
abbrev pub string_of : List ℕ → List ℕ
string_of [] = []
string_of (q ∷ cs) = content q cs

abbrev pub text_of : TokenKind → List ℕ → List ℕ
text_of Name text = name_of text
text_of Str text = encode_utf8_all (string_of (chars text))
text_of _ text = []

abbrev pub number_in : TokenKind → List ℕ → ℤ
number_in Integer text = pos (number_of (chars text))
number_in _ text = pos 0

abbrev pub token_class_of : TokenKind → List ℕ → class.Class
token_class_of Integer text = classes.Integer
token_class_of Str text = classes.Str
token_class_of Word text = unwrap_or (word_of text) classes.Name
token_class_of Symbol text = unwrap_or (sign_of text) classes.Name
token_class_of _ text = classes.Name

abbrev pub said : TokenData → Tok
said d = record { class = token_class_of d.kind d.text; text = text_of d.kind d.text; number = number_in d.kind d.text; place = d.place }
