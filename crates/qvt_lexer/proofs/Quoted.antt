-- Strings: the scan gives the next piece.
use Rattle.std.proofs.Common.{◌≡◌, ℕ, List, [], ◌∷◌, ◌++◌, length, Bool, true, false, ◌||◌, ◌==◌, inl, refl, sym, ap, ◌∙◌, subst, arith, append_assoc, length-append, Ok, Err, cond, Some, None}
use Rattle.std.proofs.lemmas.Bool.Decides.{nat_tests}
use Rattle.qvt_lexer.specs.Characters.{is_quote}
use Rattle.qvt_lexer.specs.Literals.{escape_at, item_at, Content}
use Rattle.qvt_lexer.specs.Pieces.{IsString, IsPiece, NoPiece, OpensText}
use Rattle.qvt_lexer.specs.Scan.{IsScanOf, content_end, quoted_at, string_at}
use Rattle.qvt_lexer.specs.declared.token.TokenKind.TheVariants.{Name, Integer, Str, Word, Symbol, End}
use Rattle.qvt_lexer.specs.declared.token.LexKind.TheVariants.{BadEscape, OpenText}
use Rattle.qvt_lexer.specs.declared.scan.Piece.{Piece}
use Rattle.qvt_lexer.specs.declared.scan.Piece.TheVariants.{Blank, Comment, Token}
use Rattle.qvt_lexer.proofs.Runs.{no_both}
use Rattle.qvt_lexer.proofs.Sorts.{AtQuote, sort_of, piece_of_sort}
use Rattle.qvt_lexer.proofs.Items.{content_more, content_front, content_ends, one_end}

same_number : (q : ℕ) → (q == q) ≡ true
same_number q = grind (arith, nat_tests)

no_item_at_quote : (q : ℕ) (s : List ℕ) → item_at q (q ∷ s) ≡ None
no_item_at_quote q s = ap (λ b. cond (b || q == 10) None (cond (q == 92) (escape_at s) (Some (q, s)))) (same_number q)

module _ (q : ℕ) (cs : List ℕ) (quote : is_quote q ≡ true) where
  string_is : (v s : List ℕ) → q ∷ cs ≡ v ++ s → IsString v → content_end q cs ≡ q ∷ s
  string_is v s e (p, w, vs, d, h, k) =
      let all : q ∷ cs ≡ p ∷ (w ++ s) = e ∙ ap (λ z. z ++ s) d in
      let head : p ≡ q = cc in
      let tail : cs ≡ w ++ s = cc in
      let inside : Content q w vs (q ∷ []) = subst (λ z. Content z w vs (z ∷ [])) head k in
      let longer : Content q cs vs (q ∷ s) = subst (λ z. Content q z vs (q ∷ s)) (sym tail) (content_more q vs w (q ∷ []) s inside) in
      let found = content_ends q cs in
      one_end q found.values vs cs (content_end q cs) (q ∷ s) found.content found.stops longer (no_item_at_quote q s)

  piece_string : (p : Piece) (v s : List ℕ) → IsPiece (q ∷ cs) p v s → AtQuote ≡ sort_of p → content_end q cs ≡ q ∷ s
  piece_string Blank v s k e = absurd cc
  piece_string Comment v s k e = absurd cc
  piece_string (Token Name) v s k e = absurd cc
  piece_string (Token Word) v s k e = absurd cc
  piece_string (Token Integer) v s k e = absurd cc
  piece_string (Token Str) v s k e = string_is v s k.cut k.spells
  piece_string (Token Symbol) v s k e = absurd cc
  piece_string (Token End) v s k e = absurd k.spells

  end_of_piece : (p : Piece) (v s : List ℕ) → IsPiece (q ∷ cs) p v s → content_end q cs ≡ q ∷ s
  end_of_piece p v s k = piece_string p v s k (piece_of_sort AtQuote p q cs v s quote k)

  quote_line : (w : List ℕ) → q ∷ cs ≡ 95 ∷ 39 ∷ w → ⊥
  quote_line w e = let k : q ≡ 95 = cc in no_both (is_quote 95) (subst (λ z. is_quote z ≡ true) k quote) refl

  opens : (r : List ℕ) → content_end q cs ≡ r → OpensText (q ∷ cs) r
  opens r h =
      let found = content_ends q cs in
      (q, cs, found.values, refl, quote, subst (Content q cs found.values) h found.content, ap (item_at q) (sym h) ∙ found.stops)

  closed : (r : List ℕ) → content_end q cs ≡ q ∷ r → IsScanOf (q ∷ cs) (Ok (Token Str, r))
  closed r h =
      let found = content_ends q cs in
      let front = content_front q found.values cs (q ∷ r) (subst (Content q cs found.values) h found.content) in
      let cut : q ∷ cs ≡ (q ∷ (front.front ++ q ∷ [])) ++ r = ap (λ z. q ∷ z) (front.cut ∙ sym (append_assoc front.front (q ∷ []) r)) in (
        q ∷ (front.front ++ q ∷ []),
        record {
          piece = record {
            cut = cut;
            spells = (q, front.front ++ q ∷ [], found.values, refl, quote, front.again (q ∷ []));
            uncut = λ e. absurd cc;
            alone = λ w e. absurd (quote_line w e);
          };
          longest = λ p v s k. (let same : q ∷ r ≡ q ∷ s = sym h ∙ end_of_piece p v s k in
              omega (arith, ap length same, ap length k.cut, length-append v s, ap length cut, length-append (front.front ++ q ∷ []) r));
        },
      )

  no_string : (c : ℕ) (r : List ℕ) → content_end q cs ≡ c ∷ r → (c == q) ≡ false → NoPiece (q ∷ cs)
  no_string c r h f p v s k =
      let same : c ∷ r ≡ q ∷ s = sym h ∙ end_of_piece p v s k in
      let head : c ≡ q = cc in
      no_both (q == q) (same_number q) (ap (λ z. z == q) (sym head) ∙ f)

  -- where no item begins, at neither a quote nor a backslash, the line ends
  line_ends : (c : ℕ) (r : List ℕ) → (c == q) ≡ false → (c == 92) ≡ false → item_at q (c ∷ r) ≡ None → c ≡ 10
  line_ends c r f g stops = cases (c == 10) refl where
    cases : (b : Bool) → (c == 10) ≡ b → c ≡ 10
    cases true h = grind (arith, nat_tests)
    cases false h =
        let k : item_at q (c ∷ r) ≡ Some (c, r) =
        ap (λ b. cond (b || c == 10) None (cond (c == 92) (escape_at r) (Some (c, r)))) f ∙ ap (λ b. cond b None (cond (c == 92) (escape_at r) (Some (c, r)))) h
        ∙ ap (λ b. cond b (escape_at r) (Some (c, r))) g in
        absurd (let z : Some (c, r) ≡ None = sym k ∙ stops in cc)

  quote_cases : (c : ℕ) (r : List ℕ) → content_end q cs ≡ c ∷ r → (b d : Bool) → (c == q) ≡ b → (c == 92) ≡ d
      → IsScanOf (q ∷ cs) (cond b (Ok (Token Str, r)) (cond d (Err (BadEscape, c ∷ r)) (Err (OpenText, q ∷ cs))))
  quote_cases c r h true d f g = closed r (let k : c ≡ q = grind (arith, nat_tests) in h ∙ ap (λ z. z ∷ r) k)
  quote_cases c r h false true f g =
      (no_string c r h f, inl (opens (c ∷ r) h, (r, (let k : c ≡ 92 = grind (arith, nat_tests) in ap (λ z. z ∷ r) k))))
  quote_cases c r h false false f g =
      (no_string c r h f, (refl, c ∷ r, opens (c ∷ r) h, line_ends c r f g (ap (item_at q) (sym h) ∙ (content_ends q cs).stops)))

  end_cases : (r : List ℕ) → content_end q cs ≡ r → IsScanOf (q ∷ cs) (quoted_at (q ∷ cs) q r)
  end_cases [] h = ((λ p v s k. let same : [] ≡ q ∷ s = sym h ∙ end_of_piece p v s k in absurd cc), (refl, [], opens [] h, tt))
  end_cases (c ∷ r) h = quote_cases c r h (c == q) (c == 92) refl refl

  pub string_next : IsScanOf (q ∷ cs) (string_at q cs)
  string_next = end_cases (content_end q cs) refl
