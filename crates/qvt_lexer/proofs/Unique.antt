-- A text is divided in one way, and has one fault.
use Rattle.std.proofs.Common.{◌≡◌, ℕ, List, [], ◌∷◌, ◌++◌, length, ◌==◌, Bool, true, false, ◌⊎◌, inl, inr, refl, sym, ap, ◌∙◌, subst, arith, length-append, take}
use Rattle.std.proofs.lemmas.List.{append_cancel_left, take_at}
use Rattle.std.specs.Str.{encode_utf8_all}
use Rattle.qvt_lexer.specs.Characters.{is_continue, is_digit, is_quote, is_line_comment}
use Rattle.qvt_words.specs.Words.{is_double_sign, is_reserved}
use Rattle.qvt_lexer.specs.Literals.{every, begins, Content, item_at}
use Rattle.qvt_lexer.specs.Pieces.{Spells, IsPlainName, IsLineComment, IsBlockComment, IsSymbol, IsPiece, IsNext, NoPiece, EndsLine, OpensText, OpensEscape, OpensComment}
use Rattle.qvt_lexer.specs.Division.{Written, Divides}
use Rattle.qvt_lexer.specs.Unique.{OneDivision, OneFault}
use Rattle.qvt_lexer.specs.declared.token.TokenKind.TheVariants.{Name, Integer, Str, Word, Symbol, End}
use Rattle.qvt_lexer.specs.declared.token.LexKind.TheVariants.{BadChar, OpenText, OpenComment, BadEscape, NumberTooLarge}
use Rattle.qvt_lexer.specs.declared.scan.Piece.{Piece}
use Rattle.qvt_lexer.specs.declared.scan.Piece.TheVariants.{Blank, Comment, Token}
use Rattle.qvt_lexer.proofs.Runs.{and_left, no_both}
use Rattle.qvt_lexer.proofs.Sorts.{sort_of, same_sort, piece_sort, quote_continues, digit_quote}
use Rattle.qvt_lexer.proofs.Marks.{double_line}
use Rattle.qvt_lexer.proofs.Items.{one_end}
use Rattle.qvt_lexer.proofs.Steps.{spells_some}

-- two fronts of one length are the same
same_front : (text u v r s : List ℕ) → text ≡ u ++ r → text ≡ v ++ s → length u ≡ length v → (u ≡ v) × (r ≡ s)
same_front text u v r s e d h =
    let front : u ≡ v = sym (take_at u r (length v) h) ∙ ap (take (length v)) (sym e ∙ d) ∙ take_at v s (length v) refl in
    (front, append_cancel_left v r s (ap (λ z. z ++ r) (sym front) ∙ sym e ∙ d))

word_not_name : (u : List ℕ) → IsPlainName u → is_reserved (encode_utf8_all u) ≡ true → Spells (Token Name) u → ⊥
word_not_name u n w (inl k) = no_both (is_reserved (encode_utf8_all u)) w k.1
word_not_name u n w (inr k) =
    let all : n.0 ∷ n.1 ≡ 95 ∷ 39 ∷ (k.0 ++ 39 ∷ []) = sym n.2 ∙ k.1 in
    let tail : n.1 ≡ 39 ∷ (k.0 ++ 39 ∷ []) = cc in
    quote_continues (and_left (is_continue 39) (every is_continue (k.0 ++ 39 ∷ [])) (subst (λ z. every is_continue z ≡ true) tail n.4))

line_not_double : (c d : ℕ) → is_line_comment c d ≡ true → is_double_sign c d ≡ true → ⊥
line_not_double c d h k = no_both (is_line_comment c d) h (double_line c d k)

block_not_double : is_double_sign 47 42 ≡ false
unfolding is_double_sign
block_not_double = refl

two_same : (c d x y : ℕ) (w z : List ℕ) → c ∷ d ∷ w ≡ x ∷ y ∷ z → (c ≡ x) × (d ≡ y)
two_same c d x y w z e = (cc, cc)

comment_not_symbol : (u : List ℕ) → IsLineComment u ⊎ IsBlockComment u → IsSymbol u → ⊥
comment_not_symbol u (inl (c, d, w, e, h, k)) (inl (x, f, g)) = absurd (omega (arith, ap length e, ap length f))
comment_not_symbol u (inl (c, d, w, e, h, k)) (inr (x, y, f, g)) =
    let t = two_same c d x y w [] (sym e ∙ f) in
    line_not_double x y (ap (λ z. is_line_comment z y) (sym t.0) ∙ ap (is_line_comment c) (sym t.1) ∙ h) g
comment_not_symbol u (inr (w, e, h)) (inl (x, f, g)) = absurd (omega (arith, ap length e, ap length f))
comment_not_symbol u (inr (w, e, h)) (inr (x, y, f, g)) =
    let t = two_same 47 42 x y w [] (sym e ∙ f) in
    no_both (is_double_sign 47 42) (ap (λ z. is_double_sign z 42) t.0 ∙ ap (is_double_sign x) t.1 ∙ g) block_not_double

-- one spelling is of one piece
same_piece : (p q : Piece) (u : List ℕ) → sort_of p ≡ sort_of q → Spells p u → Spells q u → p ≡ q
same_piece Blank Blank u e k j = refl
same_piece Blank Comment u e k j = absurd cc
same_piece Blank (Token Name) u e k j = absurd cc
same_piece Blank (Token Word) u e k j = absurd cc
same_piece Blank (Token Integer) u e k j = absurd cc
same_piece Blank (Token Str) u e k j = absurd cc
same_piece Blank (Token Symbol) u e k j = absurd cc
same_piece p (Token End) u e k j = absurd j
same_piece Comment Blank u e k j = absurd cc
same_piece Comment Comment u e k j = refl
same_piece Comment (Token Name) u e k j = absurd cc
same_piece Comment (Token Word) u e k j = absurd cc
same_piece Comment (Token Integer) u e k j = absurd cc
same_piece Comment (Token Str) u e k j = absurd cc
same_piece Comment (Token Symbol) u e k j = absurd (comment_not_symbol u k j)
same_piece (Token Name) Blank u e k j = absurd cc
same_piece (Token Name) Comment u e k j = absurd cc
same_piece (Token Name) (Token Name) u e k j = refl
same_piece (Token Name) (Token Word) u e k j = absurd (word_not_name u j.0 j.1 k)
same_piece (Token Name) (Token Integer) u e k j = absurd cc
same_piece (Token Name) (Token Str) u e k j = absurd cc
same_piece (Token Name) (Token Symbol) u e k j = absurd cc
same_piece (Token Word) Blank u e k j = absurd cc
same_piece (Token Word) Comment u e k j = absurd cc
same_piece (Token Word) (Token Name) u e k j = absurd (word_not_name u k.0 k.1 j)
same_piece (Token Word) (Token Word) u e k j = refl
same_piece (Token Word) (Token Integer) u e k j = absurd cc
same_piece (Token Word) (Token Str) u e k j = absurd cc
same_piece (Token Word) (Token Symbol) u e k j = absurd cc
same_piece (Token Integer) Blank u e k j = absurd cc
same_piece (Token Integer) Comment u e k j = absurd cc
same_piece (Token Integer) (Token Name) u e k j = absurd cc
same_piece (Token Integer) (Token Word) u e k j = absurd cc
same_piece (Token Integer) (Token Integer) u e k j = refl
same_piece (Token Integer) (Token Str) u e k j = absurd cc
same_piece (Token Integer) (Token Symbol) u e k j = absurd cc
same_piece (Token Str) Blank u e k j = absurd cc
same_piece (Token Str) Comment u e k j = absurd cc
same_piece (Token Str) (Token Name) u e k j = absurd cc
same_piece (Token Str) (Token Word) u e k j = absurd cc
same_piece (Token Str) (Token Integer) u e k j = absurd cc
same_piece (Token Str) (Token Str) u e k j = refl
same_piece (Token Str) (Token Symbol) u e k j = absurd cc
same_piece (Token Symbol) Blank u e k j = absurd cc
same_piece (Token Symbol) Comment u e k j = absurd (comment_not_symbol u j k)
same_piece (Token Symbol) (Token Name) u e k j = absurd cc
same_piece (Token Symbol) (Token Word) u e k j = absurd cc
same_piece (Token Symbol) (Token Integer) u e k j = absurd cc
same_piece (Token Symbol) (Token Str) u e k j = absurd cc
same_piece (Token Symbol) (Token Symbol) u e k j = refl
same_piece (Token End) q u e k j = absurd k

record Same (p q : Piece) (u v r s : List ℕ) : Type 0 where
  piece : p ≡ q
  text : u ≡ v
  rest : r ≡ s

next_same : (text : List ℕ) (p q : Piece) (u v r s : List ℕ) → IsNext text p u r → IsNext text q v s → Same p q u v r s
next_same [] p q u v r s k j = absurd (let some = spells_some p u k.piece.spells in omega (arith, ap length k.piece.cut, length-append u r))
next_same (c ∷ cs) p q u v r s k j =
    let a = k.longest q v s j.piece in
    let b = j.longest p u r k.piece in
    let fronts = same_front (c ∷ cs) u v r s k.piece.cut j.piece.cut (omega arith) in
    record {
      piece = same_piece p q u (same_sort (sort_of p) (sort_of q) c (piece_sort p c cs u r k.piece) (piece_sort q c cs v s j.piece)) k.piece.spells (subst (Spells q) (sym fronts.0) j.piece.spells);
      text = fronts.0;
      rest = fronts.1;
    }

same_divisions : (ps qs : List Written) (text r s : List ℕ) → Divides text ps r → NoPiece r → Divides text qs s → NoPiece s → (ps ≡ qs) × (r ≡ s)
same_divisions [] [] text r s k a j b = (refl, sym k ∙ j)
same_divisions [] (q ∷ qs) text r s k a (t, n, j) b = absurd (a q.piece q.text t (subst (λ z. IsPiece z q.piece q.text t) k n.piece))
same_divisions (p ∷ ps) [] text r s (t, n, k) a j b = absurd (b p.piece p.text t (subst (λ z. IsPiece z p.piece p.text t) j n.piece))
same_divisions (p ∷ ps) (q ∷ qs) text r s (t, n, k) a (w, m, j) b =
    let same = next_same text p.piece q.piece p.text q.text t w n m in
    let more = same_divisions ps qs t r s k a (subst (λ z. Divides z qs s) (sym same.rest) j) b in
    ((λ i. record { piece = same.piece i; text = same.text i } ∷ more.0 i), more.1)

pub one_division : OneDivision
one_division text ps qs r s k a j b = same_divisions ps qs text r s k a j b

-- the first character tells the kind of fault
text_quote : (text t : List ℕ) → OpensText text t → begins is_quote text ≡ true
text_quote text t (q, w, vs, e, h, k, n) = ap (begins is_quote) e ∙ h

escape_quote : (text : List ℕ) → OpensEscape text → begins is_quote text ≡ false
escape_quote text (w, e) = ap (begins is_quote) e

escape_digit : (text : List ℕ) → OpensEscape text → begins is_digit text ≡ false
escape_digit text (w, e) = ap (begins is_digit) e

comment_quote : (text : List ℕ) → OpensComment text → begins is_quote text ≡ false
comment_quote text (w, e) = ap (begins is_quote) e

comment_digit : (text : List ℕ) → OpensComment text → begins is_digit text ≡ false
comment_digit text (w, e) = ap (begins is_digit) e

abbrev is_line : ℕ → Bool
is_line c = c == 95

escape_comment : (text : List ℕ) → OpensEscape text → OpensComment text → ⊥
escape_comment text (w, e) (z, d) = no_both (begins is_line text) (ap (begins is_line) e) (ap (begins is_line) d)

quote_or_digit : (text : List ℕ) → begins is_quote text ≡ true → begins is_digit text ≡ true → ⊥
quote_or_digit [] h k = absurd cc
quote_or_digit (c ∷ cs) h k = digit_quote c k h

-- the characters of a string end at one place
text_same : (text r s : List ℕ) → OpensText text r → OpensText text s → r ≡ s
text_same text r s (q, w, vs, e, h, k, n) (p, x, us, d, g, j, m) =
    let all : q ∷ w ≡ p ∷ x = sym e ∙ d in
    let head : p ≡ q = cc in
    let tail : x ≡ w = cc in
    one_end q vs us w r s k n (subst (λ z. Content z w us s) head (subst (λ z. Content p z us s) tail j)) (ap (λ z. item_at z s) (sym head) ∙ m)

ends_no_escape : (t s w : List ℕ) → EndsLine t → t ≡ s → s ≡ 92 ∷ w → ⊥
ends_no_escape t s w h e d = absurd (let z : 92 ≡ 10 = subst EndsLine (e ∙ d) h in omega (arith, z))

both_left : (text r s : List ℕ) → r ≡ text → s ≡ text → r ≡ s
both_left text r s e d = e ∙ sym d

pub one_fault : OneFault
one_fault text BadChar BadChar r s h g = (refl, both_left text r s h.0 g.0)
one_fault text BadChar OpenText r s h g = absurd (no_both (begins is_quote text) (text_quote text g.1 g.2) h.1)
one_fault text BadChar BadEscape r s h (inl g) = absurd (no_both (begins is_quote text) (text_quote text s g.0) h.1)
one_fault text BadChar BadEscape r s h (inr g) = absurd (h.3 g.1)
one_fault text BadChar OpenComment r s h g = absurd (h.4 g.1)
one_fault text BadChar NumberTooLarge r s h g = absurd (no_both (begins is_digit text) g.1 h.2)
one_fault text OpenText BadChar r s h g = absurd (no_both (begins is_quote text) (text_quote text h.1 h.2) g.1)
one_fault text OpenText OpenText r s h g = (refl, both_left text r s h.0 g.0)
one_fault text OpenText BadEscape r s h (inl g) = absurd (ends_no_escape h.1 s g.1.0 h.3 (text_same text h.1 s h.2 g.0) g.1.1)
one_fault text OpenText BadEscape r s h (inr g) = absurd (no_both (begins is_quote text) (text_quote text h.1 h.2) (escape_quote text g.1))
one_fault text OpenText OpenComment r s h g = absurd (no_both (begins is_quote text) (text_quote text h.1 h.2) (comment_quote text g.1))
one_fault text OpenText NumberTooLarge r s h g = absurd (quote_or_digit text (text_quote text h.1 h.2) g.1)
one_fault text BadEscape BadChar r s (inl h) g = absurd (no_both (begins is_quote text) (text_quote text r h.0) g.1)
one_fault text BadEscape BadChar r s (inr h) g = absurd (g.3 h.1)
one_fault text BadEscape OpenText r s (inl h) g = absurd (ends_no_escape g.1 r h.1.0 g.3 (text_same text g.1 r g.2 h.0) h.1.1)
one_fault text BadEscape OpenText r s (inr h) g = absurd (no_both (begins is_quote text) (text_quote text g.1 g.2) (escape_quote text h.1))
one_fault text BadEscape BadEscape r s (inl h) (inl g) = (refl, text_same text r s h.0 g.0)
one_fault text BadEscape BadEscape r s (inl h) (inr g) = absurd (no_both (begins is_quote text) (text_quote text r h.0) (escape_quote text g.1))
one_fault text BadEscape BadEscape r s (inr h) (inl g) = absurd (no_both (begins is_quote text) (text_quote text s g.0) (escape_quote text h.1))
one_fault text BadEscape BadEscape r s (inr h) (inr g) = (refl, both_left text r s h.0 g.0)
one_fault text BadEscape OpenComment r s (inl h) g = absurd (no_both (begins is_quote text) (text_quote text r h.0) (comment_quote text g.1))
one_fault text BadEscape OpenComment r s (inr h) g = absurd (escape_comment text h.1 g.1)
one_fault text BadEscape NumberTooLarge r s (inl h) g = absurd (quote_or_digit text (text_quote text r h.0) g.1)
one_fault text BadEscape NumberTooLarge r s (inr h) g = absurd (no_both (begins is_digit text) g.1 (escape_digit text h.1))
one_fault text OpenComment BadChar r s h g = absurd (g.4 h.1)
one_fault text OpenComment OpenText r s h g = absurd (no_both (begins is_quote text) (text_quote text g.1 g.2) (comment_quote text h.1))
one_fault text OpenComment BadEscape r s h (inl g) = absurd (no_both (begins is_quote text) (text_quote text s g.0) (comment_quote text h.1))
one_fault text OpenComment BadEscape r s h (inr g) = absurd (escape_comment text g.1 h.1)
one_fault text OpenComment OpenComment r s h g = (refl, both_left text r s h.0 g.0)
one_fault text OpenComment NumberTooLarge r s h g = absurd (no_both (begins is_digit text) g.1 (comment_digit text h.1))
one_fault text NumberTooLarge BadChar r s h g = absurd (no_both (begins is_digit text) h.1 g.2)
one_fault text NumberTooLarge OpenText r s h g = absurd (quote_or_digit text (text_quote text g.1 g.2) h.1)
one_fault text NumberTooLarge BadEscape r s h (inl g) = absurd (quote_or_digit text (text_quote text s g.0) h.1)
one_fault text NumberTooLarge BadEscape r s h (inr g) = absurd (no_both (begins is_digit text) h.1 (escape_digit text g.1))
one_fault text NumberTooLarge OpenComment r s h g = absurd (no_both (begins is_digit text) h.1 (comment_digit text g.1))
one_fault text NumberTooLarge NumberTooLarge r s h g = (refl, both_left text r s h.0 g.0)
