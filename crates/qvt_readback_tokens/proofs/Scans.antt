-- What the scan of a text gives at the front of which a piece stands that ends there.
use Rattle.std.proofs.Common.{◌≡◌, ℕ, ◌≤◌, List, [], ◌∷◌, ◌++◌, Bool, true, false, cond, ◌||◌, ◌&&◌, ◌==◌, not, nat_le, refl, sym, ap, ◌∙◌, subst, arith, drop, Ok, Err}
use Rattle.std.proofs.lemmas.Bool.Decides.{nat_tests}
use Rattle.std.proofs.lemmas.List.{append_cancel_right}
use Rattle.qvt_lexer.specs.Characters.{is_blank, is_start, is_continue, is_digit, is_quote, is_in_line, is_line_comment, is_block_comment}
use Rattle.qvt_words.specs.Words.{is_single_sign, is_double_sign}
use Rattle.qvt_lexer.specs.Literals.{skip, every, begins, number_of, greatest_number, after_close, item_at, Content}
use Rattle.qvt_lexer.specs.Pieces.{IsNext}
use Rattle.qvt_lexer.specs.Scan.{Scan, IsScanOf, scan_at, is_apostrophe, word_kind, word_at, closed_at, escaped_at, number_at, content_end, quoted_at, string_at, block_at, single_at, mark_at}
use Rattle.qvt_lexer.specs.declared.token.TokenKind.TheVariants.{Name, Integer, Str, Symbol}
use Rattle.qvt_lexer.specs.declared.token.LexKind.TheVariants.{BadChar, BadEscape, NumberTooLarge}
use Rattle.qvt_lexer.specs.declared.scan.Piece.{Piece}
use Rattle.qvt_lexer.specs.declared.scan.Piece.TheVariants.{Blank, Comment, Token}
use Rattle.qvt_lexer.proofs.Runs.{and_left, and_both, run_only}
use Rattle.qvt_lexer.proofs.Sorts.{Sort, AtBlank, AtStart, AtDigit, AtQuote, AtMark, IsOf, same_sort, is_mark, plain_mark, plain_line, double_mark, quote_continues}
use Rattle.qvt_words.proofs.Rows.{of_single}
use Rattle.qvt_lexer.proofs.Scanned.{scan_is}
use Rattle.qvt_lexer.proofs.Items.{end_past, end_here}
use Rattle.qvt_readback_tokens.proofs.Tests.{never_true, neither}

-- what the scan finds is the next piece, and these are its characters
pub next_of : (c : ℕ) (cs u r : List ℕ) (p : Piece) → scan_at c cs ≡ Ok (p, r) → c ∷ cs ≡ u ++ r → IsNext (c ∷ cs) p u r
next_of c cs u r p h e =
    let k = subst (IsScanOf (c ∷ cs)) h (scan_is c cs) in
    let same : k.0 ≡ u = append_cancel_right k.0 u r (sym k.1.piece.cut ∙ e) in
    subst (λ z. IsNext (c ∷ cs) p z r) same k.1

-- blanks
pub scan_space : (cs : List ℕ) → scan_at 32 cs ≡ Ok (Blank, cs)
unfolding scan_at
scan_space cs = refl

pub scan_line : (cs : List ℕ) → scan_at 10 cs ≡ Ok (Blank, cs)
unfolding scan_at
scan_line cs = refl

abbrev choices : Bool → Bool → Bool → Bool → Bool → ℕ → List ℕ → Scan
choices blank escaped start digit quote c cs =
    cond blank (Ok (Blank, cs)) (cond escaped (escaped_at (c ∷ cs) (drop 1 cs)) (cond start (word_at c cs) (cond digit (number_at (c ∷ cs)) (cond quote (string_at c cs) (mark_at c cs)))))

by_choices : (c : ℕ) (cs : List ℕ) (v w x y z : Bool) → is_blank c ≡ v → (c == 95 && begins is_apostrophe cs) ≡ w → is_start c ≡ x → is_digit c ≡ y → is_quote c ≡ z → scan_at c cs ≡ choices v w x y z c cs
unfolding scan_at
by_choices c cs v w x y z a b d e f = λ i. choices (a i) (b i) (d i) (e i) (f i) c cs

apart_sorts : (s r : Sort) (c : ℕ) (b : Bool) → (b ≡ true → IsOf r c) → IsOf s c → (s ≡ r → ⊥) → b ≡ false
apart_sorts s r c b h k n = never_true b (λ t. n (same_sort s r c k (h t)))

-- names and words
module _ (c : ℕ) (w rest : List ℕ) (starts : is_start c ≡ true) (goes : every is_continue w ≡ true) (stops : begins is_continue rest ≡ false) where
  pub scan_word : (c == 95 && begins is_apostrophe (w ++ rest)) ≡ false → scan_at c (w ++ rest) ≡ Ok (Token (word_kind (c ∷ w)), rest)
  scan_word plain =
      let only = run_only is_continue (w ++ rest) w rest refl goes stops in
      by_choices c (w ++ rest) false false true (is_digit c) (is_quote c) (apart_sorts AtStart AtBlank c (is_blank c) (λ h. h) starts (λ e. cc)) plain starts refl refl
      ∙ (λ i. Ok (Token (word_kind (c ∷ sym only.0 i)), sym only.1 i))

no_apostrophe : (w rest : List ℕ) → every is_continue w ≡ true → begins is_apostrophe rest ≡ false → begins is_apostrophe (w ++ rest) ≡ false
no_apostrophe [] rest goes stops = stops
no_apostrophe (d ∷ w) rest goes stops = never_true (is_apostrophe d) (λ h.
    let same : d ≡ 39 = grind (arith, nat_tests) in
    quote_continues (ap is_continue (sym same) ∙ and_left (is_continue d) (every is_continue w) goes))

and_false : (a b : Bool) → b ≡ false → (a && b) ≡ false
and_false true b h = h
and_false false b h = refl

pub scan_name : (c : ℕ) (w rest : List ℕ) → is_start c ≡ true → every is_continue w ≡ true → begins is_continue rest ≡ false → begins is_apostrophe rest ≡ false
    → scan_at c (w ++ rest) ≡ Ok (Token (word_kind (c ∷ w)), rest)
scan_name c w rest starts goes stops quote = scan_word c w rest starts goes stops (and_false (c == 95) (begins is_apostrophe (w ++ rest)) (no_apostrophe w rest goes quote))

-- a name between `_'` and `'`
quote_stops : (rest : List ℕ) → begins is_continue (39 ∷ rest) ≡ false
quote_stops rest = never_true (is_continue 39) quote_continues

pub scan_escaped : (d : ℕ) (w rest : List ℕ) → is_start d ≡ true → every is_continue w ≡ true → scan_at 95 (39 ∷ d ∷ (w ++ 39 ∷ rest)) ≡ Ok (Token Name, rest)
unfolding scan_at
scan_escaped d w rest starts goes =
    let only = run_only is_continue (w ++ 39 ∷ rest) w (39 ∷ rest) refl goes (quote_stops rest) in
    let text = 95 ∷ 39 ∷ d ∷ (w ++ 39 ∷ rest) in
    ap (λ b. cond b (closed_at text (skip is_continue (w ++ 39 ∷ rest))) (Err (BadEscape, text))) starts
    ∙ ap (closed_at text) (sym only.1)

-- numbers
pub scan_number : (c : ℕ) (w rest : List ℕ) → is_digit c ≡ true → every is_digit w ≡ true → begins is_digit rest ≡ false → number_of (c ∷ w) ≤ greatest_number → scan_at c (w ++ rest) ≡ Ok (Token Integer, rest)
scan_number c w rest first goes stops small =
    let only = run_only is_digit (c ∷ (w ++ rest)) (c ∷ w) rest refl (and_both (is_digit c) (every is_digit w) first goes) stops in
    by_choices c (w ++ rest) false false false true (is_quote c) (apart_sorts AtDigit AtBlank c (is_blank c) (λ h. h) first (λ e. cc)) (no_line c first)
    (apart_sorts AtDigit AtStart c (is_start c) (λ h. h) first (λ e. cc)) first refl
    ∙ (λ i. cond (nat_le (number_of (sym only.0 i)) greatest_number) (Ok (Token Integer, sym only.1 i)) (Err (NumberTooLarge, c ∷ (w ++ rest))))
    ∙ ap (λ b. cond b (Ok (Token Integer, rest)) (Err (NumberTooLarge, c ∷ (w ++ rest)))) (within (number_of (c ∷ w)) small) where
      no_line : (c : ℕ) → is_digit c ≡ true → (c == 95 && begins is_apostrophe (w ++ rest)) ≡ false
      no_line c h = ap (λ b. b && begins is_apostrophe (w ++ rest)) (no_underscore c h) where
        no_underscore : (c : ℕ) → is_digit c ≡ true → (c == 95) ≡ false
        no_underscore c h = grind (arith, nat_tests)

      within : (n : ℕ) → n ≤ greatest_number → nat_le n greatest_number ≡ true
      within n h = grind (arith, nat_tests)

-- strings
content_until : (vs cs rest : List ℕ) → Content 39 cs vs (39 ∷ rest) → content_end 39 cs ≡ 39 ∷ rest
content_until [] cs rest h = end_here 39 cs (ap (item_at 39) h) ∙ h
content_until (v ∷ vs) cs rest (s, e, k) = end_past 39 cs v s e ∙ content_until vs s rest k

pub scan_string : (vs cs rest : List ℕ) → Content 39 cs vs (39 ∷ rest) → scan_at 39 cs ≡ Ok (Token Str, rest)
scan_string vs cs rest h =
    by_choices 39 cs false false false false true refl refl (apart_sorts AtQuote AtStart 39 (is_start 39) (λ k. k) refl (λ e. cc)) refl refl
    ∙ ap (quoted_at (39 ∷ cs) 39) (content_until vs cs rest h)

-- symbols
pub scan_mark : (c : ℕ) (cs : List ℕ) → is_mark c ≡ true → scan_at c cs ≡ mark_at c cs
scan_mark c cs mark =
    by_choices c cs false false false false false (apart_sorts AtMark AtBlank c (is_blank c) (λ h. h) mark (λ e. cc)) (no_line c mark) (apart_sorts AtMark AtStart c (is_start c) (λ h. h) mark (λ e. cc))
    (apart_sorts AtMark AtDigit c (is_digit c) (λ h. h) mark (λ e. cc)) (apart_sorts AtMark AtQuote c (is_quote c) (λ h. h) mark (λ e. cc)) where
      no_underscore : (c : ℕ) → is_mark c ≡ true → (c == 95) ≡ false
      no_underscore c h = plain_line c (plain_mark c h)

      no_line : (c : ℕ) → is_mark c ≡ true → (c == 95 && begins is_apostrophe cs) ≡ false
      no_line c h = ap (λ b. b && begins is_apostrophe cs) (no_underscore c h)

pub scan_double : (c d : ℕ) (rest : List ℕ) → is_double_sign c d ≡ true → scan_at c (d ∷ rest) ≡ Ok (Token Symbol, rest)
scan_double c d rest h = scan_mark c (d ∷ rest) (double_mark c d h) ∙ ap (λ b. cond b (Ok (Token Symbol, rest)) (others c d)) h where
  others : ℕ → ℕ → Scan
  others c d = cond (is_line_comment c d) (Ok (Comment, skip is_in_line rest)) (cond (is_block_comment c d) (block_at (c ∷ d ∷ rest) (after_close rest)) (single_at c (d ∷ rest)))

-- whether a sign ends before a character
abbrev pub sign_ends : List ℕ → ℕ → Bool
sign_ends [] d = true
sign_ends (c ∷ []) d = not (is_double_sign c d || is_line_comment c d)
sign_ends (c ∷ b ∷ cs) d = true

abbrev no_slashes : List ℕ → Bool
no_slashes [] = true
no_slashes (c ∷ u) = not (c == 47)

module _ (c : ℕ) (single : is_single_sign c ≡ true) where
  singly : (rest : List ℕ) → single_at c rest ≡ Ok (Token Symbol, rest)
  singly rest = ap (λ b. cond b (Ok (Token Symbol, rest)) (Err (BadChar, c ∷ rest))) single

  marked : is_mark c ≡ true
  marked = ap (λ b. b || (c == 33) || (c == 47)) single

  pub scan_single_last : scan_at c [] ≡ Ok (Token Symbol, [])
  scan_single_last = scan_mark c [] marked ∙ singly []

  pub scan_single : (d : ℕ) (rest : List ℕ) → sign_ends (c ∷ []) d ≡ true → scan_at c (d ∷ rest) ≡ Ok (Token Symbol, d ∷ rest)
  scan_single d rest ends =
      scan_mark c (d ∷ rest) marked
      ∙ (λ i. cond (no_double.0 i) (Ok (Token Symbol, rest)) (cond (no_double.1 i) (Ok (Comment, skip is_in_line rest)) (cond (no_block c single i) (block_at (c ∷ d ∷ rest) (after_close rest)) (single_at c (d ∷ rest)))))
      ∙ singly (d ∷ rest) where
        no_double : (is_double_sign c d ≡ false) × (is_line_comment c d ≡ false)
        no_double = neither (is_double_sign c d) (is_line_comment c d) ends

        no_slash : (c : ℕ) → is_single_sign c ≡ true → (c == 47) ≡ false
        no_slash c h = let k = of_single no_slashes c refl h in grind (arith, nat_tests)

        no_block : (c : ℕ) → is_single_sign c ≡ true → is_block_comment c d ≡ false
        no_block c h = ap (λ b. b && (d == 42)) (no_slash c h)
