-- Every text is lexed.
use Rattle.std.proofs.Common.{◌≡◌, ◌∙◌, ap, sym, refl, subst, arith, ℕ, zero, suc, ◌-◌, ◌<◌, ◌≤◌, List, [], ◌∷◌, ◌++◌, take, length, length-append, inl, inr, Ok, Err, cond}
use Rattle.std.specs.Prelude.{◌==◌, Bool, true, false}
use Rattle.std.specs.Str.{chars}
use Rattle.qvt_lexer.specs.Pieces.{IsNext, NoPiece, IsLexFaultOf}
use Rattle.qvt_lexer.specs.Division.{Position, Written, TokenData, token_of, place_after, ReadsTokens, start_at, moved, first_place}
use Rattle.qvt_lexer.specs.Scan.{Scan, IsScanOf, scan_at}
use Rattle.qvt_lexer.specs.declared.token.LexKind.{LexKind}
use Rattle.qvt_lexer.specs.declared.token.LexKind.TheVariants.{BadChar, OpenText, OpenComment, BadEscape, NumberTooLarge}
use Rattle.qvt_lexer.specs.declared.scan.Piece.{Piece}
use Rattle.qvt_lexer.proofs.Divided.{reads_more, reads_nothing}
use Rattle.qvt_lexer.proofs.Items.{content_front}
use Rattle.qvt_lexer.proofs.Scanned.{scan_is}
use Rattle.qvt_lexer.proofs.Steps.{spells_some}
use Rattle.qvt_lexer.specs.Lexed.{front_of, by_scan, going_on, lexed_from, lexed, LexesFrom, EveryTextIsLexed}

take_front : (u r : List ℕ) → take (length u) (u ++ r) ≡ u
take_front [] r = refl
take_front (x ∷ u) r = ap (λ z. x ∷ z) (take_front u r)

front_is : (text u rest : List ℕ) → text ≡ u ++ rest → front_of text rest ≡ u
front_is text u rest e =
    let count : length text - length rest ≡ length u = omega (arith, ap length e, length-append u rest) in
    (λ i. take (count i) (e i)) ∙ take_front u rest

-- the text from the fault on is an end of the text
fault_cut : (k : LexKind) (text r : List ℕ) → IsLexFaultOf text k r → (u : List ℕ) × (text ≡ u ++ r)
fault_cut BadChar text r h = ([], sym h.0)
fault_cut OpenText text r h = ([], sym h.0)
fault_cut OpenComment text r h = ([], sym h.0)
fault_cut NumberTooLarge text r h = ([], sym h.0)
fault_cut BadEscape text r (inl ((q, w, vs, e, quote, k, stops), s)) = let f = content_front q vs w r k in (q ∷ f.front, e ∙ ap (λ z. q ∷ z) f.cut)
fault_cut BadEscape text r (inr h) = ([], sym h.0)

-- one step from a position, where those after it are right
module _ (n : ℕ) (from at : Position) (ts : List TokenData) (reads : ReadsTokens from at ts) (c : ℕ) (cs : List ℕ) (here : at.rest ≡ c ∷ cs)
    (more : (us : List TokenData) (next : Position) → ReadsTokens from next us → length next.rest < length at.rest → LexesFrom from (lexed_from n us next)) where
  piece_more : (p : Piece) (u r : List ℕ) → IsNext (c ∷ cs) p u r → LexesFrom from (by_scan (lexed_from n) ts at (Ok (p, r)))
  piece_more p u r next =
      let cut : at.rest ≡ u ++ r = here ∙ next.piece.cut in
      let w : Written = record { piece = p; text = u } in
      let after : Position = record { place = place_after at.place u; rest = r } in
      let some = spells_some p u next.piece.spells in
      let right = more (ts ++ token_of at.place w) after (reads_more from at after ts w reads (subst (λ z. IsNext z p u r) (sym here) next) refl) (omega (arith, ap length cut, length-append u r)) in
      subst (λ z. LexesFrom from (lexed_from n (ts ++ token_of at.place (record { piece = p; text = z })) (record { place = place_after at.place z; rest = r }))) (sym (front_is at.rest u r cut)) right

  fault_here : (k : LexKind) (r : List ℕ) → NoPiece (c ∷ cs) → IsLexFaultOf (c ∷ cs) k r → LexesFrom from (by_scan (lexed_from n) ts at (Err (k, r)))
  fault_here k r none fault =
      let cut = fault_cut k (c ∷ cs) r fault in
      let all : at.rest ≡ cut.0 ++ r = here ∙ cut.1 in (
        ts,
        at,
        reads,
        record {
          at = at;
          reads = reads_nothing at;
          more = λ empty. absurd (let z : c ∷ cs ≡ [] = sym here ∙ empty in cc);
          none = subst NoPiece (sym here) none;
          before = cut.0;
          left = r;
          cut = all;
          fault = subst (λ z. IsLexFaultOf z k r) (sym here) fault;
          place = ap (place_after at.place) (front_is at.rest cut.0 r all);
        },
      )

  by_right_scan : (s : Scan) → IsScanOf (c ∷ cs) s → LexesFrom from (by_scan (lexed_from n) ts at s)
  by_right_scan (Ok (p, r)) (u, next) = piece_more p u r next
  by_right_scan (Err (k, r)) (none, fault) = fault_here k r none fault

going_right : (n : ℕ) (from at : Position) (ts : List TokenData) → ReadsTokens from at ts
    → ((us : List TokenData) (next : Position) → ReadsTokens from next us → length next.rest < length at.rest → LexesFrom from (lexed_from n us next))
    → (rest : List ℕ) → at.rest ≡ rest → LexesFrom from (going_on (lexed_from n) ts at rest)
going_right n from at ts reads more [] e = (at, reads, e, refl)
going_right n from at ts reads more (c ∷ cs) e = by_right_scan n from at ts reads c cs e more (scan_at c cs) (scan_is c cs)

none_left : (rest : List ℕ) → length rest ≤ 0 → rest ≡ []
none_left [] h = refl
none_left (c ∷ cs) h = absurd (omega (arith, h))

pub lexes : (n : ℕ) (from at : Position) (ts : List TokenData) → ReadsTokens from at ts → length at.rest ≤ n → LexesFrom from (lexed_from n ts at)
unfolding lexed_from
lexes zero from at ts reads within = (at, reads, none_left at.rest within, refl)
lexes (suc n) from at ts reads within =
    going_right n from at ts reads (λ us next right fewer. lexes n from next us right (omega (arith, fewer, within))) at.rest refl

marked_within : (c : ℕ) (cs : List ℕ) (b : Bool) → (c == 65279) ≡ b → length (start_at (c ∷ cs)).rest ≤ length (c ∷ cs)
marked_within c cs true h = subst (λ z. length (Position.rest (cond z (record { place = moved first_place c; rest = cs }) (record { place = first_place; rest = c ∷ cs }))) ≤ length (c ∷ cs)) (sym h) (omega arith)
marked_within c cs false h = subst (λ z. length (Position.rest (cond z (record { place = moved first_place c; rest = cs }) (record { place = first_place; rest = c ∷ cs }))) ≤ length (c ∷ cs)) (sym h) (omega arith)

start_within : (cs : List ℕ) → length (start_at cs).rest ≤ length cs
start_within [] = omega arith
start_within (c ∷ cs) = marked_within c cs (c == 65279) refl

pub every_text : EveryTextIsLexed
unfolding lexed
every_text text = lexes (length (chars text)) (start_at (chars text)) (start_at (chars text)) [] (reads_nothing (start_at (chars text))) (start_within (chars text))
