-- The printed text of pieces: which blanks stand between them, and how each is spelled (QVT 1.3, 8.4).
use Rattle.std.specs.Prelude.{ℕ, ℤ, Bool, true, false, ◌||◌, ◌&&◌, ◌==◌, ◌-◌, ◌+◌, ◌/◌, ◌%◌, nat_lt, List, [], ◌∷◌, ◌++◌, replicate, fold, flat_map, codes, if◌then◌else◌, Option, Some, None, encode_utf8}
use Rattle.std.specs.Fmt.{signed_decimal}
use Rattle.std.specs.Str.{chars}
use Rattle.qvt_language.specs.declared.class.Class.{Class}
use Rattle.qvt_language.specs.declared.class.Class.TheVariants as class
use Rattle.qvt_printer_layout.specs.declared.piece.PrintPiece.{PrintPiece}
use Rattle.qvt_printer_layout.specs.declared.piece.PrintPiece.TheVariants.{Plain, Name, Integer, Quoted, Tight, Line, Indent, Dedent}
use Rattle.qvt_words.specs.Words.{is_reserved, spelling}

-- a name, in the escaped form where it is a reserved word
abbrev pub name_text : List ℕ → List ℕ
name_text n = if is_reserved n then codes "_'" ++ (n ++ codes "'") else n

-- a hexadecimal digit
abbrev pub digit : ℕ → ℕ
digit n = if nat_lt n 10 then 48 + n else 87 + n

-- a character by its number, in two hexadecimal digits
abbrev pub numbered : ℕ → List ℕ
numbered c = codes "\\x" ++ (digit (c / 16) ∷ digit (c % 16) ∷ [])

-- a character of a text in quotes
abbrev pub escaped : ℕ → List ℕ
escaped c =
    if c == 92 then codes "\\\\"
    else if c == 39 then codes "\\'"
    else if c == 8 then codes "\\b"
    else if c == 9 then codes "\\t"
    else if c == 10 then codes "\\n"
    else if c == 12 then codes "\\f"
    else if c == 13 then codes "\\r"
    else if nat_lt c 32 || c == 127 then numbered c
    else encode_utf8 c

abbrev pub quoted : List ℕ → List ℕ
quoted t = 39 ∷ (flat_map escaped (chars t) ++ 39 ∷ [])

abbrev pub integer_text : ℤ → List ℕ
integer_text v = signed_decimal v

-- no blank stands on either side of these
abbrev pub is_tight_around : Class → Bool
is_tight_around class.Dot = true
is_tight_around class.Arrow = true
is_tight_around class.DoubleColon = true
is_tight_around class.AtSign = true
is_tight_around class.DotDot = true
is_tight_around c = false

-- no blank stands after these, nor before those
abbrev pub is_tight_after : Class → Bool
is_tight_after class.OpenRound = true
is_tight_after c = is_tight_around c

abbrev pub is_tight_before : Class → Bool
is_tight_before class.CloseRound = true
is_tight_before class.Comma = true
is_tight_before class.Semicolon = true
is_tight_before c = is_tight_around c

-- after these a round bracket follows without a blank
abbrev pub takes_brackets : Class → Bool
takes_brackets class.Name = true
takes_brackets class.MainWord = true
takes_brackets class.ForEachWord = true
takes_brackets class.SetWord = true
takes_brackets class.BagWord = true
takes_brackets class.SequenceWord = true
takes_brackets class.OrderedSetWord = true
takes_brackets class.ResolveAllWord = true
takes_brackets class.ResolveOneWord = true
takes_brackets class.InvResolveWord = true
takes_brackets class.InvResolveOneWord = true
takes_brackets class.ResolveInWord = true
takes_brackets class.ResolveOneInWord = true
takes_brackets class.InvResolveInWord = true
takes_brackets class.InvResolveOneInWord = true
takes_brackets c = false

abbrev pub is_open_round : Class → Bool
is_open_round class.OpenRound = true
is_open_round c = false

-- whether two tokens stand side by side without a blank
abbrev pub is_joined : Class → Class → Bool
is_joined a b = is_tight_after a || is_tight_before b || (takes_brackets a && is_open_round b)

-- what is printed so far, how many blanks a line begins with, and the token that a blank may have to follow
pub record Sheet : Type 0 where
  pub text : List ℕ
  pub margin : ℕ
  pub last : Option Class

abbrev pub blank_before : Option Class → Class → List ℕ
blank_before None c = []
blank_before (Some a) c = if is_joined a c then [] else codes " "

abbrev pub with_token : Sheet → Class → List ℕ → Sheet
with_token s c spelled = record { text = s.text ++ (blank_before s.last c ++ spelled); margin = s.margin; last = Some c }

abbrev pub tightened : Sheet → Sheet
tightened s = record { text = s.text; margin = s.margin; last = None }

abbrev pub next_line : Sheet → Sheet
next_line s = record { text = s.text ++ (10 ∷ replicate s.margin 32); margin = s.margin; last = None }

abbrev pub indented : Sheet → Sheet
indented s = record { text = s.text; margin = s.margin + 2; last = s.last }

abbrev pub dedented : Sheet → Sheet
dedented s = record { text = s.text; margin = s.margin - 2; last = s.last }

abbrev pub laid : Sheet → PrintPiece → Sheet
laid s (Plain c) = with_token s c (spelling c)
laid s (Name n) = with_token s class.Name (name_text n)
laid s (Integer v) = with_token s class.Integer (integer_text v)
laid s (Quoted t) = with_token s class.Str (quoted t)
laid s Tight = tightened s
laid s Line = next_line s
laid s Indent = indented s
laid s Dedent = dedented s

abbrev pub blank_sheet : Sheet
blank_sheet = record { text = []; margin = 0; last = None }

unfoldable pub laid_out : List PrintPiece → List ℕ
laid_out ps = (fold laid blank_sheet ps).text
