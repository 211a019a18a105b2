-- Tokens that are runs of characters, cut out of the text.
use Rattle.std.proofs.Common.{◌≡◌, ℕ, List, ◌∷◌, ◌++◌, Bool, true, nat_le, sym, ap, ◌∙◌, Ok, Err, cond}
use Rattle.std.specs.Str.{chars, IsUtf8, encode_utf8_all}
use Rattle.std.proofs.lemmas.Str.{chars-append, encodes-chars}
use Rattle.std.proofs.lemmas.List.{append_cancel_right}
use Rattle.qvt_lexer.specs.Characters.{is_continue, is_digit}
use Rattle.qvt_words.specs.Words.{is_reserved}
use Rattle.qvt_lexer.specs.Literals.{run, skip, every, number_of, greatest_number}
use Rattle.qvt_lexer.specs.Scan.{word_at, number_at}
use Rattle.qvt_lexer.specs.declared.token.TokenKind.TheVariants.{Name, Integer, Word}
use Rattle.qvt_lexer.specs.declared.token.LexKind.TheVariants.{NumberTooLarge}
use Rattle.qvt_lexer.specs.declared.scan.Piece.TheVariants.{Token}
use Rattle.qvt_lexer.proofs.Runs.{run_skip, every_run}

-- the characters of a front, by those of the text and of the rest
pub chars_before : (text front rest u : List ℕ) → text ≡ front ++ rest → IsUtf8 front → chars text ≡ u ++ chars rest → chars front ≡ u
chars_before text front rest u e utf h =
    append_cancel_right (chars front) u (chars rest) (sym (chars-append front rest utf) ∙ sym (ap chars e) ∙ h)

module _ (p : ℕ → Bool) (text front rest : List ℕ) (e : text ≡ front ++ rest) (utf : IsUtf8 front) where
  -- a run at the front
  pub chars_of_run : chars rest ≡ skip p (chars text) → chars front ≡ run p (chars text)
  chars_of_run h = chars_before text front rest (run p (chars text)) e utf (run_skip p (chars text) ∙ ap (λ z. run p (chars text) ++ z) (sym h))

  pub run_passes : chars rest ≡ skip p (chars text) → every p (chars front) ≡ true
  run_passes h = ap (every p) (chars_of_run h) ∙ every_run p (chars text)

  -- a run after one character
  pub chars_of_more : (c : ℕ) (cs : List ℕ) → chars text ≡ c ∷ cs → chars rest ≡ skip p cs → chars front ≡ c ∷ run p cs
  chars_of_more c cs first h =
      chars_before text front rest (c ∷ run p cs) e utf (first ∙ ap (λ z. c ∷ z) (run_skip p cs) ∙ ap (λ z. c ∷ (run p cs ++ z)) (sym h))

pub word_gives : (c : ℕ) (cs word rest : List ℕ) (b : Bool) → chars word ≡ c ∷ run is_continue cs → IsUtf8 word → is_reserved word ≡ b → rest ≡ skip is_continue cs
    → word_at c cs ≡ Ok (Token (cond b Word Name), rest)
word_gives c cs word rest b h utf r k =
    let same : encode_utf8_all (c ∷ run is_continue cs) ≡ word = ap encode_utf8_all (sym h) ∙ encodes-chars word utf in
    ap (λ z. Ok (Token (cond (is_reserved z) Word Name), skip is_continue cs)) same ∙ ap (λ z. Ok (Token (cond z Word Name), skip is_continue cs)) r
    ∙ ap (λ z. Ok (Token (cond b Word Name), z)) (sym k)

pub number_gives : (cs digits rest : List ℕ) (b : Bool) → digits ≡ run is_digit cs → nat_le (number_of digits) greatest_number ≡ b → rest ≡ skip is_digit cs
    → number_at cs ≡ cond b (Ok (Token Integer, rest)) (Err (NumberTooLarge, cs))
number_gives cs digits rest b h r k =
    ap (λ z. cond (nat_le (number_of z) greatest_number) (Ok (Token Integer, skip is_digit cs)) (Err (NumberTooLarge, cs))) (sym h)
    ∙ ap (λ z. cond z (Ok (Token Integer, skip is_digit cs)) (Err (NumberTooLarge, cs))) r
    ∙ ap (λ z. cond b (Ok (Token Integer, z)) (Err (NumberTooLarge, cs))) (sym k)
