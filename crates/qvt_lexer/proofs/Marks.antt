-- Symbols and comments: the scan gives the next piece.
use Rattle.std.proofs.Common.{◌≡◌, ℕ, ◌+◌, ◌≤◌, List, [], ◌∷◌, ◌++◌, length, Bool, true, false, ◌&&◌, ◌==◌, not, ◌⊎◌, inl, inr, refl, sym, ap, ◌∙◌, arith, length-append, Ok, Err, cond, Option, Some, None}
use Rattle.std.proofs.lemmas.Bool.Decides.{nat_tests}
use Rattle.qvt_lexer.specs.Characters.{is_blank, is_start, is_digit, is_quote, is_in_line, is_line_comment, is_block_comment}
use Rattle.qvt_words.specs.Words.{is_single_sign, is_double_sign}
use Rattle.qvt_words.proofs.Rows.{of_double}
use Rattle.qvt_lexer.specs.Literals.{run, skip, after_close}
use Rattle.qvt_lexer.specs.Pieces.{IsLineComment, IsBlockComment, IsSymbol, IsPiece, NoPiece, OpensEscape, OpensComment}
use Rattle.qvt_lexer.specs.Scan.{IsScanOf, block_at, single_at, mark_at}
use Rattle.qvt_lexer.specs.declared.token.TokenKind.TheVariants.{Name, Integer, Str, Word, Symbol, End}
use Rattle.qvt_lexer.specs.declared.token.LexKind.TheVariants.{BadChar}
use Rattle.qvt_lexer.specs.declared.scan.Piece.{Piece}
use Rattle.qvt_lexer.specs.declared.scan.Piece.TheVariants.{Blank, Comment, Token}
use Rattle.qvt_lexer.proofs.Runs.{no_both, run_skip, every_run, run_longest}
use Rattle.qvt_lexer.proofs.Sorts.{piece_sort}

-- the first `*/` of a front is that of the text
same_rest : (w r : List ℕ) → ◌≡◌ {A = Option (List ℕ)} (Some w) (Some r) → w ≡ r
same_rest w r e = cc

close_step : (c d : ℕ) (w r s : List ℕ) (b : Bool) → (after_close (d ∷ w) ≡ Some r → after_close (d ∷ (w ++ s)) ≡ Some (r ++ s)) → ◌≡◌ {A = Option (List ℕ)} (cond b (Some w) (after_close (d ∷ w))) (Some r)
    → ◌≡◌ {A = Option (List ℕ)} (cond b (Some (w ++ s)) (after_close (d ∷ (w ++ s)))) (Some (r ++ s))
close_step c d w r s true ih e = ap (λ z. Some (z ++ s)) (same_rest w r e)
close_step c d w r s false ih e = ih e

close_more : (w r s : List ℕ) → after_close w ≡ Some r → after_close (w ++ s) ≡ Some (r ++ s)
close_more [] r s e = absurd cc
close_more (c ∷ []) r s e = absurd cc
close_more (c ∷ d ∷ w) r s e = close_step c d w r s (c == 42 && d == 47) (λ h. close_more (d ∷ w) r s h) e

-- the front up to the first `*/`
record Closed (c : ℕ) (cs r : List ℕ) : Type 0 where
  front : List ℕ
  cut : c ∷ cs ≡ c ∷ (front ++ r)
  closes : after_close (c ∷ front) ≡ Some []

front_step : (c d : ℕ) (w r : List ℕ) (b : Bool) → (c == 42 && d == 47) ≡ b → (after_close (d ∷ w) ≡ Some r → Closed d w r) → ◌≡◌ {A = Option (List ℕ)} (cond b (Some w) (after_close (d ∷ w))) (Some r) → Closed c (d ∷ w) r
front_step c d w r true h ih e = record {
  front = d ∷ [];
  cut = ap (λ z. c ∷ d ∷ z) (same_rest w r e);
  closes = ap (λ b. cond b (Some []) (after_close (d ∷ []))) h;
}
front_step c d w r false h ih e =
    let k = ih e in
    record {
      front = d ∷ k.front;
      cut = ap (λ z. c ∷ z) k.cut;
      closes = ap (λ b. cond b (Some k.front) (after_close (d ∷ k.front))) h ∙ k.closes;
    }

close_front : (c : ℕ) (cs r : List ℕ) → after_close (c ∷ cs) ≡ Some r → Closed c cs r
close_front c [] r e = absurd cc
close_front c (d ∷ w) r e = front_step c d w r (c == 42 && d == 47) refl (λ h. close_front d w r h) e

-- the text begins with c, and c is no blank and begins no name, number or string
module _ (c : ℕ) (cs : List ℕ) (blank : is_blank c ≡ false) (start : is_start c ≡ false) (digit : is_digit c ≡ false) (quote : is_quote c ≡ false) where
  mark_piece : (p : Piece) (v s : List ℕ) → IsPiece (c ∷ cs) p v s → (IsLineComment v ⊎ IsBlockComment v) ⊎ IsSymbol v
  mark_piece Blank v s k = absurd (no_both (is_blank c) (piece_sort Blank c cs v s k) blank)
  mark_piece Comment v s k = inl k.spells
  mark_piece (Token Name) v s k = absurd (no_both (is_start c) (piece_sort (Token Name) c cs v s k) start)
  mark_piece (Token Word) v s k = absurd (no_both (is_start c) (piece_sort (Token Word) c cs v s k) start)
  mark_piece (Token Integer) v s k = absurd (no_both (is_digit c) (piece_sort (Token Integer) c cs v s k) digit)
  mark_piece (Token Str) v s k = absurd (no_both (is_quote c) (piece_sort (Token Str) c cs v s k) quote)
  mark_piece (Token Symbol) v s k = inr k.spells
  mark_piece (Token End) v s k = absurd k.spells

  mark_line : OpensEscape (c ∷ cs) → ⊥
  mark_line (w, e) = let k : c ≡ 95 = cc in no_both (is_start 95) refl (ap is_start (sym k) ∙ start)

  bad_char : NoPiece (c ∷ cs) → (OpensComment (c ∷ cs) → ⊥) → IsScanOf (c ∷ cs) (Err (BadChar, c ∷ cs))
  bad_char none comment = (none, (refl, quote, digit, mark_line, comment))

  symbol_of : (u r : List ℕ) → c ∷ cs ≡ u ++ r → IsSymbol u → ((v s : List ℕ) → c ∷ cs ≡ v ++ s → (IsLineComment v ⊎ IsBlockComment v) ⊎ IsSymbol v → length v ≤ length u) → IsScanOf (c ∷ cs) (Ok (Token Symbol, r))
  symbol_of u r e h far = (
    u,
    record {
      piece = record { cut = e; spells = h; uncut = λ e. absurd cc; alone = λ w e. absurd (mark_line (w, e)) };
      longest = λ p v s k. far v s k.cut (mark_piece p v s k);
    },
  )

  comment_of : (u r : List ℕ) → c ∷ cs ≡ u ++ r → IsLineComment u ⊎ IsBlockComment u → ((v s : List ℕ) → c ∷ cs ≡ v ++ s → (IsLineComment v ⊎ IsBlockComment v) ⊎ IsSymbol v → length v ≤ length u) → IsScanOf (c ∷ cs) (Ok (Comment, r))
  comment_of u r e h far = (
    u,
    record {
      piece = record { cut = e; spells = h; uncut = λ e. absurd cc; alone = λ w e. absurd (mark_line (w, e)) };
      longest = λ p v s k. far v s k.cut (mark_piece p v s k);
    },
  )

-- the first two characters of a piece
two_are : (c d x y : ℕ) (cs w v s : List ℕ) → c ∷ d ∷ cs ≡ v ++ s → v ≡ x ∷ y ∷ w → (x ≡ c) × (y ≡ d) × (cs ≡ w ++ s)
two_are c d x y cs w v s e h =
    let all : c ∷ d ∷ cs ≡ x ∷ y ∷ (w ++ s) = e ∙ ap (λ z. z ++ s) h in (cc, cc, cc)

one_is : (c x : ℕ) (cs v s : List ℕ) → c ∷ cs ≡ v ++ s → v ≡ x ∷ [] → x ≡ c
one_is c x cs v s e h = let all : c ∷ cs ≡ x ∷ s = e ∙ ap (λ z. z ++ s) h in cc

module _ (c d : ℕ) (cs v s : List ℕ) (e : c ∷ d ∷ cs ≡ v ++ s) where
  line_is : IsLineComment v → is_line_comment c d ≡ true
  line_is (x, y, w, h, k, m) = let t = two_are c d x y cs w v s e h in ap (λ z. is_line_comment z d) (sym t.0) ∙ ap (is_line_comment x) (sym t.1) ∙ k

  block_is : IsBlockComment v → is_block_comment c d ≡ true
  block_is (w, h, k) = let t = two_are c d 47 42 cs w v s e h in ap (λ z. is_block_comment z d) (sym t.0) ∙ ap (is_block_comment 47) (sym t.1)

  double_is : (x y : ℕ) → v ≡ x ∷ y ∷ [] → is_double_sign x y ≡ true → is_double_sign c d ≡ true
  double_is x y h k = let t = two_are c d x y cs [] v s e h in ap (λ z. is_double_sign z d) (sym t.0) ∙ ap (is_double_sign x) (sym t.1) ∙ k

  -- a piece is longer than one character only in these ways
  at_most_one : is_line_comment c d ≡ false → is_block_comment c d ≡ false → is_double_sign c d ≡ false → (IsLineComment v ⊎ IsBlockComment v) ⊎ IsSymbol v → (x : ℕ) × (v ≡ x ∷ []) × (is_single_sign x ≡ true)
  at_most_one l b o (inl (inl w)) = absurd (no_both (is_line_comment c d) (line_is w) l)
  at_most_one l b o (inl (inr w)) = absurd (no_both (is_block_comment c d) (block_is w) b)
  at_most_one l b o (inr (inl w)) = w
  at_most_one l b o (inr (inr w)) = absurd (no_both (is_double_sign c d) (double_is w.0 w.1 w.2 w.3) o)

  at_most_two : is_line_comment c d ≡ false → is_block_comment c d ≡ false → (IsLineComment v ⊎ IsBlockComment v) ⊎ IsSymbol v → length v ≤ 2
  at_most_two l b (inl (inl w)) = absurd (no_both (is_line_comment c d) (line_is w) l)
  at_most_two l b (inl (inr w)) = absurd (no_both (is_block_comment c d) (block_is w) b)
  at_most_two l b (inr (inl w)) = omega (arith, ap length w.1)
  at_most_two l b (inr (inr w)) = omega (arith, ap length w.2)

  line_length : is_block_comment c d ≡ false → (IsLineComment v ⊎ IsBlockComment v) ⊎ IsSymbol v → length v ≤ 2 + length (run is_in_line cs)
  line_length b (inl (inl (x, y, w, h, k, m))) =
      let t = two_are c d x y cs w v s e h in let le = run_longest is_in_line cs w s t.2 m in omega (arith, ap length h)
  line_length b (inl (inr w)) = absurd (no_both (is_block_comment c d) (block_is w) b)
  line_length b (inr (inl w)) = omega (arith, ap length w.1)
  line_length b (inr (inr w)) = omega (arith, ap length w.2)

  -- a piece of a text that opens a block comment
  block_close : is_line_comment c d ≡ false → is_double_sign c d ≡ false → is_single_sign c ≡ false → (IsLineComment v ⊎ IsBlockComment v) ⊎ IsSymbol v → after_close cs ≡ Some s
  block_close l o n (inl (inl w)) = absurd (no_both (is_line_comment c d) (line_is w) l)
  block_close l o n (inl (inr (w, h, k))) = let t = two_are c d 47 42 cs w v s e h in ap after_close t.2 ∙ close_more w [] s k
  block_close l o n (inr (inl (x, h, k))) = absurd (no_both (is_single_sign x) k (ap is_single_sign (one_is c x (d ∷ cs) v s e h) ∙ n))
  block_close l o n (inr (inr w)) = absurd (no_both (is_double_sign c d) (double_is w.0 w.1 w.2 w.3) o)

-- no sign of two characters opens a comment
abbrev opens_none : List ℕ → Bool
opens_none [] = true
opens_none (c ∷ []) = true
opens_none (c ∷ d ∷ u) = not (is_line_comment c d) && not (is_block_comment c d)

pub double_line : (c d : ℕ) → is_double_sign c d ≡ true → is_line_comment c d ≡ false
double_line c d h = let k = of_double opens_none c d refl h in grind (arith, nat_tests)

double_block : (c d : ℕ) → is_double_sign c d ≡ true → is_block_comment c d ≡ false
double_block c d h = let k = of_double opens_none c d refl h in grind (arith, nat_tests)

line_block : (c d : ℕ) → is_line_comment c d ≡ true → is_block_comment c d ≡ false
line_block c d h = grind (arith, nat_tests)

block_line : (c d : ℕ) → is_block_comment c d ≡ true → is_line_comment c d ≡ false
block_line c d h = grind (arith, nat_tests)

block_first : (c d : ℕ) → is_block_comment c d ≡ true → c ≡ 47
block_first c d h = grind (arith, nat_tests)

block_single : (c d : ℕ) → is_block_comment c d ≡ true → is_single_sign c ≡ false
unfolding is_single_sign
block_single c d h = ap is_single_sign (block_first c d h)

block_second : (c d : ℕ) → is_block_comment c d ≡ true → d ≡ 42
block_second c d h = grind (arith, nat_tests)

module _ (c : ℕ) (blank : is_blank c ≡ false) (start : is_start c ≡ false) (digit : is_digit c ≡ false) (quote : is_quote c ≡ false) where
  -- one character at the end of the text
  last_short : (v s : List ℕ) → c ∷ [] ≡ v ++ s → length v ≤ 1
  last_short v s e = omega (arith, ap length e, length-append v s)

  last_single : (v s : List ℕ) → c ∷ [] ≡ v ++ s → (IsLineComment v ⊎ IsBlockComment v) ⊎ IsSymbol v → is_single_sign c ≡ true
  last_single v s e (inl (inl w)) = absurd (let z = last_short v s e in omega (arith, ap length w.3))
  last_single v s e (inl (inr w)) = absurd (let z = last_short v s e in omega (arith, ap length w.1))
  last_single v s e (inr (inl w)) = ap is_single_sign (sym (one_is c w.0 [] v s e w.1)) ∙ w.2
  last_single v s e (inr (inr w)) = absurd (let z = last_short v s e in omega (arith, ap length w.2))

  last_cases : (b : Bool) → is_single_sign c ≡ b → IsScanOf (c ∷ []) (cond b (Ok (Token Symbol, [])) (Err (BadChar, c ∷ [])))
  last_cases true h = symbol_of c [] blank start digit quote (c ∷ []) [] refl (inl (c, refl, h)) (λ v s e k. last_short v s e)
  last_cases false h = bad_char c [] blank start digit quote (λ p v s k. no_both (is_single_sign c) (last_single v s k.cut (mark_piece c [] blank start digit quote p v s k)) h) (λ w. let z = w.1 in absurd cc)

  module _ (d : ℕ) (cs : List ℕ) where
    single_cases : is_double_sign c d ≡ false → is_line_comment c d ≡ false → is_block_comment c d ≡ false → (b : Bool) → is_single_sign c ≡ b → IsScanOf (c ∷ d ∷ cs) (cond b (Ok (Token Symbol, d ∷ cs)) (Err (BadChar, c ∷ d ∷ cs)))
    single_cases o l b true h =
        symbol_of c (d ∷ cs) blank start digit quote (c ∷ []) (d ∷ cs) refl (inl (c, refl, h)) (λ v s e k. let w = at_most_one c d cs v s e l b o k in omega (arith, ap length w.1))
    single_cases o l b false h =
        bad_char c (d ∷ cs) blank start digit quote
        (λ p v s k. let w = at_most_one c d cs v s k.cut l b o (mark_piece c (d ∷ cs) blank start digit quote p v s k) in
        no_both (is_single_sign c) (ap is_single_sign (sym (one_is c w.0 (d ∷ cs) v s k.cut w.1)) ∙ w.2) h)
        (λ w. let e = w.1 in let x : c ≡ 47 = cc in let y : d ≡ 42 = cc in
        no_both (is_block_comment 47 42) refl (ap (λ z. is_block_comment z 42) (sym x) ∙ ap (is_block_comment c) (sym y) ∙ b))

    block_cases : is_double_sign c d ≡ false → is_block_comment c d ≡ true → (o : Option (List ℕ)) → after_close cs ≡ o → IsScanOf (c ∷ d ∷ cs) (block_at (c ∷ d ∷ cs) o)
    block_cases o b None h = (
      (λ p v s k. let z = block_close c d cs v s k.cut (block_line c d b) o (block_single c d b) (mark_piece c (d ∷ cs) blank start digit quote p v s k) in
          let y : None ≡ Some s = sym h ∙ z in cc),
      (refl, (cs, λ i. block_first c d b i ∷ block_second c d b i ∷ cs)),
    )
    block_cases o b (Some r) h = closed cs h where
      closed : (w : List ℕ) → after_close w ≡ Some r → IsScanOf (c ∷ d ∷ w) (Ok (Comment, r))
      closed [] h = absurd cc
      closed (x ∷ w) h =
          let k = close_front x w r h in
          let first = block_first c d b in
          let second = block_second c d b in
          comment_of c (d ∷ x ∷ w) blank start digit quote (c ∷ d ∷ x ∷ k.front) r (ap (λ z. c ∷ d ∷ z) k.cut)
          (inr (x ∷ k.front, (λ i. first i ∷ second i ∷ x ∷ k.front), k.closes))
          (λ v s e q. let z = block_close c d (x ∷ w) v s e (block_line c d b) o (block_single c d b) q in
          let same : r ≡ s = same_rest r s (sym h ∙ z) in
          omega (arith, ap length same, ap length e, length-append v s, ap length k.cut, length-append k.front r))

    line_cases : is_double_sign c d ≡ false → (l b : Bool) → is_line_comment c d ≡ l → is_block_comment c d ≡ b
        → IsScanOf (c ∷ d ∷ cs) (cond l (Ok (Comment, skip is_in_line cs)) (cond b (block_at (c ∷ d ∷ cs) (after_close cs)) (single_at c (d ∷ cs))))
    line_cases o true b h k =
        comment_of c (d ∷ cs) blank start digit quote (c ∷ d ∷ run is_in_line cs) (skip is_in_line cs) (ap (λ z. c ∷ d ∷ z) (run_skip is_in_line cs))
        (inl (c, d, run is_in_line cs, refl, h, every_run is_in_line cs))
        (λ v s e q. let z = line_length c d cs v s e (line_block c d h) q in omega arith)
    line_cases o false true h k = block_cases o k (after_close cs) refl
    line_cases o false false h k = single_cases o h k (is_single_sign c) refl

    double_cases : (o : Bool) → is_double_sign c d ≡ o
        → IsScanOf (c ∷ d ∷ cs) (cond o (Ok (Token Symbol, cs)) (cond (is_line_comment c d) (Ok (Comment, skip is_in_line cs)) (cond (is_block_comment c d) (block_at (c ∷ d ∷ cs) (after_close cs)) (single_at c (d ∷ cs)))))
    double_cases true h =
        symbol_of c (d ∷ cs) blank start digit quote (c ∷ d ∷ []) cs refl (inr (c, d, refl, h)) (λ v s e k. let z = at_most_two c d cs v s e (double_line c d h) (double_block c d h) k in omega arith)
    double_cases false h = line_cases h (is_line_comment c d) (is_block_comment c d) refl refl

  pub mark_next : (cs : List ℕ) → IsScanOf (c ∷ cs) (mark_at c cs)
  mark_next [] = last_cases (is_single_sign c) refl
  mark_next (d ∷ cs) = double_cases d cs (is_double_sign c d) refl
