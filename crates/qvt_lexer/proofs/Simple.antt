-- Blanks, names, words and numbers: the scan gives the next piece.
use Rattle.std.proofs.Common.{◌≡◌, ℕ, ◌≤◌, List, [], ◌∷◌, ◌++◌, length, Bool, true, false, ◌&&◌, ◌==◌, nat_le, inl, inr, refl, sym, ap, ◌∙◌, subst, arith, append_assoc, Ok, Err, cond}
use Rattle.std.proofs.lemmas.Bool.Decides.{nat_tests}
use Rattle.std.specs.Str.{encode_utf8_all}
use Rattle.qvt_lexer.specs.Characters.{is_blank, is_start, is_continue, is_digit}
use Rattle.qvt_words.specs.Words.{is_reserved}
use Rattle.qvt_lexer.specs.Literals.{run, skip, every, begins, number_of, greatest_number}
use Rattle.qvt_lexer.specs.Pieces.{IsPlainName, IsEscapedName, IsDigits, Spells, IsPiece, NoPiece}
use Rattle.qvt_lexer.specs.Scan.{IsScanOf, word_at, is_apostrophe, closed_at, escaped_at, number_at}
use Rattle.qvt_lexer.specs.declared.token.TokenKind.TheVariants.{Name, Integer, Str, Word, Symbol, End}
use Rattle.qvt_lexer.specs.declared.token.LexKind.TheVariants.{BadEscape, NumberTooLarge}
use Rattle.qvt_lexer.specs.declared.scan.Piece.{Piece}
use Rattle.qvt_lexer.specs.declared.scan.Piece.TheVariants.{Blank, Comment, Token}
use Rattle.qvt_lexer.proofs.Runs.{and_both, and_left, no_both, run_more, run_skip, every_run, begins_skip, run_longest, run_only}
use Rattle.qvt_lexer.proofs.Sorts.{AtBlank, AtStart, AtDigit, sort_of, piece_of_sort, quote_continues}

-- blanks
blank_longest : (c : ℕ) (cs : List ℕ) (p : Piece) (v s : List ℕ) → IsPiece (c ∷ cs) p v s → AtBlank ≡ sort_of p → length v ≤ 1
blank_longest c cs Blank v s k e = omega (arith, ap length k.spells.1)
blank_longest c cs Comment v s k e = absurd cc
blank_longest c cs (Token Name) v s k e = absurd cc
blank_longest c cs (Token Word) v s k e = absurd cc
blank_longest c cs (Token Integer) v s k e = absurd cc
blank_longest c cs (Token Str) v s k e = absurd cc
blank_longest c cs (Token Symbol) v s k e = absurd cc
blank_longest c cs (Token End) v s k e = absurd k.spells

pub blank_next : (c : ℕ) (cs : List ℕ) → is_blank c ≡ true → IsScanOf (c ∷ cs) (Ok (Blank, cs))
blank_next c cs h = (
  c ∷ [],
  record {
    piece = record {
      cut = refl;
      spells = (c, refl, h);
      uncut = λ e. absurd cc;
      alone = λ w e. absurd (let k : c ≡ 95 = cc in no_both (is_blank 95) (subst (λ z. is_blank z ≡ true) k h) refl);
    };
    longest = λ p v s k. blank_longest c cs p v s k (piece_of_sort AtBlank p c cs v s h k);
  },
)

-- names and words
module _ (c : ℕ) (cs : List ℕ) (starts : is_start c ≡ true) where
  word_spells : (b : Bool) → is_reserved (encode_utf8_all (c ∷ run is_continue cs)) ≡ b → Spells (Token (cond b Word Name)) (c ∷ run is_continue cs)
  word_spells true e = ((c, run is_continue cs, refl, starts, every_run is_continue cs), e)
  word_spells false e = inl ((c, run is_continue cs, refl, starts, every_run is_continue cs), e)

  word_uncut : (b : Bool) → ◌≡◌ {A = Piece} (Token (cond b Word Name)) (Token Integer) → ⊥
  word_uncut true e = cc
  word_uncut false e = cc

  plain_longest : (v s : List ℕ) → c ∷ cs ≡ v ++ s → IsPlainName v → length v ≤ length (c ∷ run is_continue cs)
  plain_longest v s e n =
      let all : c ∷ cs ≡ n.0 ∷ (n.1 ++ s) = e ∙ ap (λ z. z ++ s) n.2 in
      let tail : cs ≡ n.1 ++ s = cc in
      let le = run_longest is_continue cs n.1 s tail n.4 in omega (arith, ap length n.2)

  module _ (plain : (c == 95 && begins is_apostrophe cs) ≡ false) where
    no_escape : (w : List ℕ) → c ∷ cs ≡ 95 ∷ 39 ∷ w → ⊥
    no_escape w e =
        let head : c ≡ 95 = cc in
        let tail : cs ≡ 39 ∷ w = cc in
        let f : true ≡ false = ap (λ x. 95 == 95 && begins is_apostrophe x) (sym tail) ∙ ap (λ x. x == 95 && begins is_apostrophe cs) (sym head) ∙ plain in cc

    word_longest : (p : Piece) (v s : List ℕ) → IsPiece (c ∷ cs) p v s → AtStart ≡ sort_of p → length v ≤ length (c ∷ run is_continue cs)
    word_longest Blank v s k e = absurd cc
    word_longest Comment v s k e = absurd cc
    word_longest (Token Name) v s k e = elim k.spells [
      | inl n ↦ plain_longest v s k.cut n.0
      | inr n ↦ absurd (no_escape ((n.0 ++ 39 ∷ []) ++ s) (k.cut ∙ ap (λ z. z ++ s) n.1))
    ]
    word_longest (Token Word) v s k e = plain_longest v s k.cut k.spells.0
    word_longest (Token Integer) v s k e = absurd cc
    word_longest (Token Str) v s k e = absurd cc
    word_longest (Token Symbol) v s k e = absurd cc
    word_longest (Token End) v s k e = absurd k.spells

    pub word_next : IsScanOf (c ∷ cs) (word_at c cs)
    word_next = (
      c ∷ run is_continue cs,
      record {
        piece = record {
          cut = ap (λ z. c ∷ z) (run_skip is_continue cs);
          spells = word_spells (is_reserved (encode_utf8_all (c ∷ run is_continue cs))) refl;
          uncut = λ e. absurd (word_uncut (is_reserved (encode_utf8_all (c ∷ run is_continue cs))) e);
          alone = λ w e. absurd (no_escape w e);
        };
        longest = λ p v s k. word_longest p v s k (piece_of_sort AtStart p c cs v s starts k);
      },
    )

-- what a piece of a text that begins with `_'` is: the escaped name
module _ (w : List ℕ) where
  record IsEscaped (v s : List ℕ) : Type 0 where
    first : ℕ
    more : List ℕ
    after : w ≡ first ∷ more
    starts : is_start first ≡ true
    rest : skip is_continue more ≡ 39 ∷ s
    text : v ≡ 95 ∷ 39 ∷ ((first ∷ run is_continue more) ++ 39 ∷ [])

  not_plain : (v x : List ℕ) → v ≡ 95 ∷ 39 ∷ x → IsPlainName v → ⊥
  not_plain v x e n =
      let all : n.0 ∷ n.1 ≡ 95 ∷ 39 ∷ x = sym n.2 ∙ e in
      let tail : n.1 ≡ 39 ∷ x = cc in
      quote_continues (and_left (is_continue 39) (every is_continue x) (subst (λ z. every is_continue z ≡ true) tail n.4))

  escaped_is : (v s : List ℕ) → 95 ∷ 39 ∷ w ≡ v ++ s → IsEscapedName v → IsEscaped v s
  escaped_is v s e (z, d, n) =
      let all : 95 ∷ 39 ∷ w ≡ 95 ∷ 39 ∷ ((z ++ 39 ∷ []) ++ s) = e ∙ ap (λ z. z ++ s) d in
      let tail : w ≡ (z ++ 39 ∷ []) ++ s = cc in
      let cut : w ≡ n.0 ∷ (n.1 ++ 39 ∷ s) = tail ∙ append_assoc z (39 ∷ []) s ∙ ap (λ z. z ++ 39 ∷ s) n.2 in
      let only = run_only is_continue (n.1 ++ 39 ∷ s) n.1 (39 ∷ s) refl n.4 (stops s) in
      record {
        first = n.0;
        more = n.1 ++ 39 ∷ s;
        after = cut;
        starts = n.3;
        rest = sym only.1;
        text = d ∙ ap (λ z. 95 ∷ 39 ∷ (z ++ 39 ∷ [])) (n.2 ∙ ap (λ z. n.0 ∷ z) only.0);
      } where
        stops : (s : List ℕ) → begins is_continue (39 ∷ s) ≡ false
        stops s = no_continue (is_continue 39) refl where
          no_continue : (b : Bool) → is_continue 39 ≡ b → b ≡ false
          no_continue true h = absurd (quote_continues h)
          no_continue false h = refl

  piece_escaped : (p : Piece) (v s : List ℕ) → IsPiece (95 ∷ 39 ∷ w) p v s → AtStart ≡ sort_of p → IsEscaped v s
  piece_escaped Blank v s k e = absurd cc
  piece_escaped Comment v s k e = absurd cc
  piece_escaped (Token Name) v s k e = let a = k.alone w refl in elim k.spells [
    | inl n ↦ absurd (not_plain v a.0 a.1 n.0)
    | inr n ↦ escaped_is v s k.cut n
  ]
  piece_escaped (Token Word) v s k e = let a = k.alone w refl in absurd (not_plain v a.0 a.1 k.spells.0)
  piece_escaped (Token Integer) v s k e = absurd cc
  piece_escaped (Token Str) v s k e = absurd cc
  piece_escaped (Token Symbol) v s k e = absurd cc
  piece_escaped (Token End) v s k e = absurd k.spells

  escaped_of : (p : Piece) (v s : List ℕ) → IsPiece (95 ∷ 39 ∷ w) p v s → IsEscaped v s
  escaped_of p v s k = piece_escaped p v s k (piece_of_sort AtStart p 95 (39 ∷ w) v s refl k)

  fault : NoPiece (95 ∷ 39 ∷ w) → IsScanOf (95 ∷ 39 ∷ w) (Err (BadEscape, 95 ∷ 39 ∷ w))
  fault none = (none, inr (refl, (w, refl)))

module _ (d : ℕ) (ds : List ℕ) where
  no_name : is_start d ≡ false → NoPiece (95 ∷ 39 ∷ d ∷ ds)
  no_name h p v s k =
      let e = escaped_of (d ∷ ds) p v s k in
      let same : d ≡ e.first = (let z = e.after in cc) in
      no_both (is_start d) (subst (λ z. is_start z ≡ true) (sym same) e.starts) h

  rest_is : (p : Piece) (v s : List ℕ) → IsPiece (95 ∷ 39 ∷ d ∷ ds) p v s → (skip is_continue ds ≡ 39 ∷ s) × (v ≡ 95 ∷ 39 ∷ ((d ∷ run is_continue ds) ++ 39 ∷ []))
  rest_is p v s k =
      let e = escaped_of (d ∷ ds) p v s k in
      let head : d ≡ e.first = (let z = e.after in cc) in
      let tail : ds ≡ e.more = (let z = e.after in cc) in
      (ap (skip is_continue) tail ∙ e.rest, e.text ∙ sym (λ i. 95 ∷ 39 ∷ ((head i ∷ run is_continue (tail i)) ++ 39 ∷ [])))

  closed_scan : (r : List ℕ) → skip is_continue ds ≡ r → is_start d ≡ true → (b : Bool) (e : ℕ) (q : List ℕ) → r ≡ e ∷ q → (e == 39) ≡ b
      → IsScanOf (95 ∷ 39 ∷ d ∷ ds) (cond b (Ok (Token Name, q)) (Err (BadEscape, 95 ∷ 39 ∷ d ∷ ds)))
  closed_scan r h starts true e q a t =
      let quote : e ≡ 39 = grind (arith, nat_tests) in
      let cut : 39 ∷ q ≡ skip is_continue ds = sym (ap (λ z. z ∷ q) quote) ∙ sym (h ∙ a) in (
        95 ∷ 39 ∷ ((d ∷ run is_continue ds) ++ 39 ∷ []),
        record {
          piece = record {
            cut = ap (λ z. 95 ∷ 39 ∷ d ∷ z) (run_skip is_continue ds ∙ ap (λ z. run is_continue ds ++ z) (sym cut) ∙ sym (append_assoc (run is_continue ds) (39 ∷ []) q));
            spells = inr (d ∷ run is_continue ds, refl, (d, run is_continue ds, refl, starts, every_run is_continue ds));
            uncut = λ e. absurd cc;
            alone = λ w e. ((d ∷ run is_continue ds) ++ 39 ∷ [], refl);
          };
          longest = λ p v s k. omega (arith, ap length (rest_is p v s k).1);
        },
      )
  closed_scan r h starts false e q a t =
      fault (d ∷ ds) (λ p v s k.
      let same : e ∷ q ≡ 39 ∷ s = sym (h ∙ a) ∙ (rest_is p v s k).0 in
      let head : e ≡ 39 = cc in
      no_both (39 == 39) refl (ap (λ z. z == 39) (sym head) ∙ t))

  closed_cases : is_start d ≡ true → (r : List ℕ) → skip is_continue ds ≡ r → IsScanOf (95 ∷ 39 ∷ d ∷ ds) (closed_at (95 ∷ 39 ∷ d ∷ ds) r)
  closed_cases starts [] h = fault (d ∷ ds) (λ p v s k. let same : [] ≡ 39 ∷ s = sym h ∙ (rest_is p v s k).0 in absurd cc)
  closed_cases starts (e ∷ q) h = closed_scan (e ∷ q) h starts (e == 39) e q refl refl

  name_cases : (b : Bool) → is_start d ≡ b → IsScanOf (95 ∷ 39 ∷ d ∷ ds) (cond b (closed_at (95 ∷ 39 ∷ d ∷ ds) (skip is_continue ds)) (Err (BadEscape, 95 ∷ 39 ∷ d ∷ ds)))
  name_cases true h = closed_cases h (skip is_continue ds) refl
  name_cases false h = fault (d ∷ ds) (no_name h)

pub escaped_next : (w : List ℕ) → IsScanOf (95 ∷ 39 ∷ w) (escaped_at (95 ∷ 39 ∷ w) w)
escaped_next [] = fault [] (λ p v s k. let z = (escaped_of [] p v s k).after in absurd cc)
escaped_next (d ∷ ds) = name_cases d ds (is_start d) refl

-- numbers
module _ (c : ℕ) (cs : List ℕ) (digit : is_digit c ≡ true) where
  number_is : (v s : List ℕ) → c ∷ cs ≡ v ++ s → IsDigits v → begins is_digit s ≡ false → v ≡ run is_digit (c ∷ cs)
  number_is v s e n uncut =
      (run_only is_digit (c ∷ cs) v s e (subst (λ z. every is_digit z ≡ true) (sym n.2) (and_both (is_digit n.0) (every is_digit n.1) n.3 n.4)) uncut).0

  -- the piece is the run of digits, and its number is not too large
  piece_number : (p : Piece) (v s : List ℕ) → IsPiece (c ∷ cs) p v s → AtDigit ≡ sort_of p → (v ≡ run is_digit (c ∷ cs)) × (number_of v ≤ greatest_number)
  piece_number Blank v s k e = absurd cc
  piece_number Comment v s k e = absurd cc
  piece_number (Token Name) v s k e = absurd cc
  piece_number (Token Word) v s k e = absurd cc
  piece_number (Token Integer) v s k e = (number_is v s k.cut k.spells.0 (k.uncut refl), k.spells.1)
  piece_number (Token Str) v s k e = absurd cc
  piece_number (Token Symbol) v s k e = absurd cc
  piece_number (Token End) v s k e = absurd k.spells

  number_of_piece : (p : Piece) (v s : List ℕ) → IsPiece (c ∷ cs) p v s → (v ≡ run is_digit (c ∷ cs)) × (number_of v ≤ greatest_number)
  number_of_piece p v s k = piece_number p v s k (piece_of_sort AtDigit p c cs v s digit k)

  digit_line : (w : List ℕ) → c ∷ cs ≡ 95 ∷ 39 ∷ w → ⊥
  digit_line w e = let k : c ≡ 95 = cc in no_both (is_digit 95) (subst (λ z. is_digit z ≡ true) k digit) refl

  number_cases : (b : Bool) → nat_le (number_of (run is_digit (c ∷ cs))) greatest_number ≡ b
      → IsScanOf (c ∷ cs) (cond b (Ok (Token Integer, skip is_digit (c ∷ cs))) (Err (NumberTooLarge, c ∷ cs)))
  number_cases true h = (
    run is_digit (c ∷ cs),
    record {
      piece = record {
        cut = run_skip is_digit (c ∷ cs);
        spells = ((c, run is_digit cs, run_more is_digit c cs digit, digit, every_run is_digit cs), grind (arith, h));
        uncut = λ e. begins_skip is_digit (c ∷ cs);
        alone = λ w e. absurd (digit_line w e);
      };
      longest = λ p v s k. omega (arith, ap length (number_of_piece p v s k).0);
    },
  )
  number_cases false h = (
    (λ p v s k.
        let n = number_of_piece p v s k in
        let le = subst (λ z. number_of z ≤ greatest_number) n.0 n.1 in
        too_large (number_of (run is_digit (c ∷ cs))) le h),
    (refl, digit),
  ) where
    too_large : (n : ℕ) → n ≤ greatest_number → nat_le n greatest_number ≡ false → ⊥
    too_large n le f = absurd (grind (arith, nat_tests))

  pub number_next : IsScanOf (c ∷ cs) (number_at (c ∷ cs))
  number_next = number_cases (nat_le (number_of (run is_digit (c ∷ cs))) greatest_number) refl
