-- The scan of a text is right.
use Rattle.std.proofs.Common.{◌≡◌, ℕ, List, [], ◌∷◌, drop, Bool, true, false, ◌&&◌, ◌==◌, refl, sym, subst, arith, Ok, cond}
use Rattle.std.proofs.lemmas.Bool.Decides.{nat_tests}
use Rattle.qvt_lexer.specs.Characters.{is_blank, is_start, is_digit, is_quote}
use Rattle.qvt_lexer.specs.Literals.{begins}
use Rattle.qvt_lexer.specs.Scan.{IsScanOf, is_apostrophe, word_at, escaped_at, number_at, string_at, mark_at, scan_at}
use Rattle.qvt_lexer.specs.declared.scan.Piece.TheVariants.{Blank}
use Rattle.qvt_lexer.proofs.Runs.{and_left, and_right}
use Rattle.qvt_lexer.proofs.Simple.{blank_next, word_next, escaped_next, number_next}
use Rattle.qvt_lexer.proofs.Quoted.{string_next}
use Rattle.qvt_lexer.proofs.Marks.{mark_next}

opened : (c : ℕ) (cs : List ℕ) → c ≡ 95 → begins is_apostrophe cs ≡ true → IsScanOf (c ∷ cs) (escaped_at (c ∷ cs) (drop 1 cs))
opened c [] h k = absurd cc
opened c (d ∷ cs) h k =
    let quote : d ≡ 39 = grind (arith, nat_tests) in
    subst (λ z. IsScanOf z (escaped_at z cs)) (λ i. sym h i ∷ sym quote i ∷ cs) (escaped_next cs)

module _ (c : ℕ) (cs : List ℕ) where
  quote_cases : is_blank c ≡ false → is_start c ≡ false → is_digit c ≡ false → (q : Bool) → is_quote c ≡ q → IsScanOf (c ∷ cs) (cond q (string_at c cs) (mark_at c cs))
  quote_cases b s d true h = string_next c cs h
  quote_cases b s d false h = mark_next c b s d h cs

  digit_cases : is_blank c ≡ false → is_start c ≡ false → (d : Bool) → is_digit c ≡ d → IsScanOf (c ∷ cs) (cond d (number_at (c ∷ cs)) (cond (is_quote c) (string_at c cs) (mark_at c cs)))
  digit_cases b s true h = number_next c cs h
  digit_cases b s false h = quote_cases b s h (is_quote c) refl

  start_cases : is_blank c ≡ false → (c == 95 && begins is_apostrophe cs) ≡ false → (s : Bool) → is_start c ≡ s
      → IsScanOf (c ∷ cs) (cond s (word_at c cs) (cond (is_digit c) (number_at (c ∷ cs)) (cond (is_quote c) (string_at c cs) (mark_at c cs))))
  start_cases b e true h = word_next c cs h e
  start_cases b e false h = digit_cases b h (is_digit c) refl

  escape_cases : is_blank c ≡ false → (e : Bool) → (c == 95 && begins is_apostrophe cs) ≡ e
      → IsScanOf (c ∷ cs) (cond e (escaped_at (c ∷ cs) (drop 1 cs)) (cond (is_start c) (word_at c cs) (cond (is_digit c) (number_at (c ∷ cs)) (cond (is_quote c) (string_at c cs) (mark_at c cs)))))
  escape_cases b true h =
      let line = and_left (c == 95) (begins is_apostrophe cs) h in
      opened c cs (grind (arith, nat_tests)) (and_right (c == 95) (begins is_apostrophe cs) h)
  escape_cases b false h = start_cases b h (is_start c) refl

  blank_cases : (b : Bool) → is_blank c ≡ b
      → IsScanOf (c ∷ cs) (cond b (Ok (Blank, cs)) (cond (c == 95 && begins is_apostrophe cs) (escaped_at (c ∷ cs) (drop 1 cs)) (cond (is_start c) (word_at c cs) (cond (is_digit c) (number_at (c ∷ cs)) (cond (is_quote c) (string_at c cs) (mark_at c cs))))))
  blank_cases true h = blank_next c cs h
  blank_cases false h = escape_cases h (c == 95 && begins is_apostrophe cs) refl

  pub scan_is : IsScanOf (c ∷ cs) (scan_at c cs)
  unfolding scan_at
  scan_is = blank_cases (is_blank c) refl
