-- Each piece tells by its first character of which sort it is: the sorts are apart.
use Rattle.std.proofs.Common.{◌≡◌, ℕ, ◌<◌, List, [], ◌∷◌, ◌++◌, Bool, true, false, ◌||◌, ◌&&◌, ◌==◌, not, nat_lt, eqb-true, inl, inr, refl, ap, ◌∙◌, subst, arith}
use Rattle.std.proofs.lemmas.Bool.Decides.{nat_tests}
use Rattle.std.specs.Char.{is_ascii_alphabetic}
use Rattle.unicode_ident.specs.Ident.{is_xid_start}
use Rattle.unicode_ident.proofs.IdentLemmas.{is_xid_start-ascii, is_xid_continue-ascii}
use Rattle.qvt_lexer.specs.Characters.{is_blank, is_start, is_continue, is_digit, is_quote, is_line_comment}
use Rattle.qvt_words.specs.Words.{is_single_sign, is_double_sign}
use Rattle.qvt_words.proofs.Rows.{of_single, of_double}
use Rattle.qvt_lexer.specs.Pieces.{IsPiece}
use Rattle.qvt_lexer.specs.declared.token.TokenKind.TheVariants.{Name, Integer, Str, Word, Symbol, End}
use Rattle.qvt_lexer.specs.declared.scan.Piece.{Piece}
use Rattle.qvt_lexer.specs.declared.scan.Piece.TheVariants.{Blank, Comment, Token}
use Rattle.qvt_lexer.proofs.Runs.{no_both}

-- what begins a symbol or a comment
abbrev pub is_mark : ℕ → Bool
is_mark c = is_single_sign c || (c == 33) || (c == 47)

pub data Sort : Type 0 where
  AtBlank : Sort
  AtStart : Sort
  AtDigit : Sort
  AtQuote : Sort
  AtMark : Sort

abbrev pub IsOf : Sort → ℕ → Type 0
IsOf AtBlank c = is_blank c ≡ true
IsOf AtStart c = is_start c ≡ true
IsOf AtDigit c = is_digit c ≡ true
IsOf AtQuote c = is_quote c ≡ true
IsOf AtMark c = is_mark c ≡ true

abbrev pub sort_of : Piece → Sort
sort_of Blank = AtBlank
sort_of Comment = AtMark
sort_of (Token Name) = AtStart
sort_of (Token Word) = AtStart
sort_of (Token Integer) = AtDigit
sort_of (Token Str) = AtQuote
sort_of (Token Symbol) = AtMark
sort_of (Token End) = AtMark

-- what is ASCII, no letter and no `_` begins no name
no_start : (c : ℕ) → c < 128 → is_ascii_alphabetic c ≡ false → (c == 95) ≡ false → is_start c ≡ true → ⊥
no_start c low letter line h =
    let e : is_start c ≡ false = ap (λ b. b || is_xid_start c) line ∙ is_xid_start-ascii c low ∙ letter in no_both (is_start c) h e

blank_start : (c : ℕ) → is_blank c ≡ true → is_start c ≡ true → ⊥
blank_start c h k = no_start c (grind (arith, nat_tests)) (grind (arith, nat_tests)) (grind (arith, nat_tests)) k

digit_start : (c : ℕ) → is_digit c ≡ true → is_start c ≡ true → ⊥
digit_start c h k = no_start c (grind (arith, nat_tests)) (grind (arith, nat_tests)) (grind (arith, nat_tests)) k

quote_start : (c : ℕ) → is_quote c ≡ true → is_start c ≡ true → ⊥
quote_start c h k = no_start c (grind (arith, nat_tests)) (grind (arith, nat_tests)) (grind (arith, nat_tests)) k

-- what begins a symbol or a comment is ASCII, and of no other sort
abbrev pub is_plain : List ℕ → Bool
is_plain [] = true
is_plain (c ∷ u) = nat_lt c 128 && not (is_ascii_alphabetic c) && not (c == 95) && not (is_blank c) && not (is_digit c) && not (is_quote c)

plain_as : (c d : ℕ) → (c == d) ≡ true → is_plain (d ∷ []) ≡ true → is_plain (c ∷ []) ≡ true
plain_as c d e h = ap (λ z. is_plain (z ∷ [])) (eqb-true c d e) ∙ h

pub plain_mark : (c : ℕ) → is_mark c ≡ true → is_plain (c ∷ []) ≡ true
plain_mark c h = single (is_single_sign c) refl h where
  slash : (b : Bool) → (c == 33) ≡ b → (b || (c == 47)) ≡ true → is_plain (c ∷ []) ≡ true
  slash true e k = plain_as c 33 e refl
  slash false e k = plain_as c 47 k refl

  single : (b : Bool) → is_single_sign c ≡ b → (b || (c == 33) || (c == 47)) ≡ true → is_plain (c ∷ []) ≡ true
  single true e k = of_single is_plain c refl e
  single false e k = slash (c == 33) refl k

plain_low : (c : ℕ) → is_plain (c ∷ []) ≡ true → c < 128
plain_low c h = grind (arith, nat_tests)

plain_letter : (c : ℕ) → is_plain (c ∷ []) ≡ true → is_ascii_alphabetic c ≡ false
plain_letter c h = grind (arith, nat_tests)

pub plain_line : (c : ℕ) → is_plain (c ∷ []) ≡ true → (c == 95) ≡ false
plain_line c h = grind (arith, nat_tests)

plain_blank : (c : ℕ) → is_plain (c ∷ []) ≡ true → is_blank c ≡ false
plain_blank c h = grind (arith, nat_tests)

plain_digit : (c : ℕ) → is_plain (c ∷ []) ≡ true → is_digit c ≡ false
plain_digit c h = grind (arith, nat_tests)

plain_quote : (c : ℕ) → is_plain (c ∷ []) ≡ true → is_quote c ≡ false
plain_quote c h = grind (arith, nat_tests)

mark_start : (c : ℕ) → is_mark c ≡ true → is_start c ≡ true → ⊥
mark_start c h k = let p = plain_mark c h in no_start c (plain_low c p) (plain_letter c p) (plain_line c p) k

blank_digit : (c : ℕ) → is_blank c ≡ true → is_digit c ≡ true → ⊥
blank_digit c h k = absurd (grind (arith, nat_tests))

blank_quote : (c : ℕ) → is_blank c ≡ true → is_quote c ≡ true → ⊥
blank_quote c h k = absurd (grind (arith, nat_tests))

blank_mark : (c : ℕ) → is_blank c ≡ true → is_mark c ≡ true → ⊥
blank_mark c h k = no_both (is_blank c) h (plain_blank c (plain_mark c k))

pub digit_quote : (c : ℕ) → is_digit c ≡ true → is_quote c ≡ true → ⊥
digit_quote c h k = absurd (grind (arith, nat_tests))

digit_mark : (c : ℕ) → is_digit c ≡ true → is_mark c ≡ true → ⊥
digit_mark c h k = no_both (is_digit c) h (plain_digit c (plain_mark c k))

quote_mark : (c : ℕ) → is_quote c ≡ true → is_mark c ≡ true → ⊥
quote_mark c h k = no_both (is_quote c) h (plain_quote c (plain_mark c k))

-- two sorts of one character are the same
pub same_sort : (s r : Sort) (c : ℕ) → IsOf s c → IsOf r c → s ≡ r
same_sort AtBlank AtBlank c h k = refl
same_sort AtBlank AtStart c h k = absurd (blank_start c h k)
same_sort AtBlank AtDigit c h k = absurd (blank_digit c h k)
same_sort AtBlank AtQuote c h k = absurd (blank_quote c h k)
same_sort AtBlank AtMark c h k = absurd (blank_mark c h k)
same_sort AtStart AtBlank c h k = absurd (blank_start c k h)
same_sort AtStart AtStart c h k = refl
same_sort AtStart AtDigit c h k = absurd (digit_start c k h)
same_sort AtStart AtQuote c h k = absurd (quote_start c k h)
same_sort AtStart AtMark c h k = absurd (mark_start c k h)
same_sort AtDigit AtBlank c h k = absurd (blank_digit c k h)
same_sort AtDigit AtStart c h k = absurd (digit_start c h k)
same_sort AtDigit AtDigit c h k = refl
same_sort AtDigit AtQuote c h k = absurd (digit_quote c h k)
same_sort AtDigit AtMark c h k = absurd (digit_mark c h k)
same_sort AtQuote AtBlank c h k = absurd (blank_quote c k h)
same_sort AtQuote AtStart c h k = absurd (quote_start c h k)
same_sort AtQuote AtDigit c h k = absurd (digit_quote c k h)
same_sort AtQuote AtQuote c h k = refl
same_sort AtQuote AtMark c h k = absurd (quote_mark c h k)
same_sort AtMark AtBlank c h k = absurd (blank_mark c k h)
same_sort AtMark AtStart c h k = absurd (mark_start c h k)
same_sort AtMark AtDigit c h k = absurd (digit_mark c k h)
same_sort AtMark AtQuote c h k = absurd (quote_mark c k h)
same_sort AtMark AtMark c h k = refl

single_mark : (c : ℕ) → is_single_sign c ≡ true → is_mark c ≡ true
single_mark c h = ap (λ b. b || (c == 33) || (c == 47)) h

abbrev begins_mark : List ℕ → Bool
begins_mark [] = true
begins_mark (c ∷ u) = is_mark c

pub double_mark : (c d : ℕ) → is_double_sign c d ≡ true → is_mark c ≡ true
unfolding is_single_sign
double_mark c d h = of_double begins_mark c d refl h

slash_mark : is_mark 47 ≡ true
unfolding is_single_sign
slash_mark = refl

dash_mark : is_mark 45 ≡ true
unfolding is_single_sign
dash_mark = refl

mark_as : (c d : ℕ) → (c == d) ≡ true → is_mark d ≡ true → is_mark c ≡ true
mark_as c d e h = ap is_mark (eqb-true c d e) ∙ h

line_mark : (c d : ℕ) → is_line_comment c d ≡ true → is_mark c ≡ true
line_mark c d h = by (c == 47) refl where
  dash : (c d : ℕ) → is_line_comment c d ≡ true → (c == 47) ≡ false → (c == 45) ≡ true
  dash c d h e = grind (arith, nat_tests)

  by : (b : Bool) → (c == 47) ≡ b → is_mark c ≡ true
  by true e = mark_as c 47 e slash_mark
  by false e = mark_as c 45 (dash c d h e) dash_mark

-- the character at the front of a piece
first_is : (c x : ℕ) (cs u v s : List ℕ) → c ∷ cs ≡ v ++ s → v ≡ x ∷ u → x ≡ c
first_is c x cs u v s e d = let k : c ∷ cs ≡ x ∷ (u ++ s) = e ∙ ap (λ z. z ++ s) d in cc

moved : (s : Sort) (c x : ℕ) (cs u v r : List ℕ) → c ∷ cs ≡ v ++ r → v ≡ x ∷ u → IsOf s x → IsOf s c
moved s c x cs u v r e d h = subst (IsOf s) (first_is c x cs u v r e d) h

pub piece_sort : (p : Piece) (c : ℕ) (cs v s : List ℕ) → IsPiece (c ∷ cs) p v s → IsOf (sort_of p) c
piece_sort Blank c cs v s k = let w = k.spells in moved AtBlank c w.0 cs [] v s k.cut w.1 w.2
piece_sort Comment c cs v s k = elim k.spells [
  | inl w ↦ moved AtMark c w.0 cs (w.1 ∷ w.2) v s k.cut w.3 (line_mark w.0 w.1 w.4)
  | inr w ↦ moved AtMark c 47 cs (42 ∷ w.0) v s k.cut w.1 slash_mark
]
piece_sort (Token Name) c cs v s k = elim k.spells [
  | inl w ↦ moved AtStart c w.0.0 cs w.0.1 v s k.cut w.0.2 w.0.3
  | inr w ↦ moved AtStart c 95 cs (39 ∷ (w.0 ++ 39 ∷ [])) v s k.cut w.1 refl
]
piece_sort (Token Word) c cs v s k = let w = k.spells.0 in moved AtStart c w.0 cs w.1 v s k.cut w.2 w.3
piece_sort (Token Integer) c cs v s k = let w = k.spells.0 in moved AtDigit c w.0 cs w.1 v s k.cut w.2 w.3
piece_sort (Token Str) c cs v s k = let w = k.spells in moved AtQuote c w.0 cs w.1 v s k.cut w.3 w.4
piece_sort (Token Symbol) c cs v s k = elim k.spells [
  | inl w ↦ moved AtMark c w.0 cs [] v s k.cut w.1 (single_mark w.0 w.2)
  | inr w ↦ moved AtMark c w.0 cs (w.1 ∷ []) v s k.cut w.2 (double_mark w.0 w.1 w.3)
]
piece_sort (Token End) c cs v s k = absurd k.spells

-- a piece of a text whose first character is of a sort is of that sort
pub piece_of_sort : (r : Sort) (p : Piece) (c : ℕ) (cs v s : List ℕ) → IsOf r c → IsPiece (c ∷ cs) p v s → r ≡ sort_of p
piece_of_sort r p c cs v s h k = same_sort r (sort_of p) c h (piece_sort p c cs v s k)

-- a quote continues no name
pub quote_continues : is_continue 39 ≡ true → ⊥
quote_continues h = let e : is_continue 39 ≡ false = is_xid_continue-ascii 39 (omega arith) in no_both (is_continue 39) h e
