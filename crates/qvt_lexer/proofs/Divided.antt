-- Pieces one after the other.
use Rattle.std.proofs.Common.{◌≡◌, ℕ, List, [], ◌∷◌, ◌++◌, refl, sym, ap, ◌∙◌, append_assoc, append-nil, subst}
use Rattle.std.specs.Str.{encode_utf8_all}
use Rattle.qvt_base.specs.declared.numbers.Place.{Place}
use Rattle.qvt_lexer.specs.Pieces.{IsNext}
use Rattle.qvt_lexer.specs.Division.{Position, Written, Divides, TokenData, token_of, tokens_of, place_after, past, ReadsTokens}
use Rattle.qvt_lexer.specs.declared.token.TokenKind.{TokenKind}
use Rattle.qvt_lexer.specs.declared.scan.Piece.TheVariants.{Blank, Comment, Token}

divides_more : (ps : List Written) (text s r : List ℕ) (p : Written) → Divides text ps s → IsNext s p.piece p.text r → Divides text (ps ++ p ∷ []) r
divides_more [] text s r p e n = (r, subst (λ z. IsNext z p.piece p.text r) (sym e) n, refl)
divides_more (q ∷ ps) text s r p (t, m, d) n = (t, m, divides_more ps t s r p d n)

tokens_more : (ps : List Written) (at : Place) (p : Written) → tokens_of at (ps ++ p ∷ []) ≡ tokens_of at ps ++ token_of (past at ps) p
tokens_more [] at p = append-nil (token_of at p)
tokens_more (q ∷ ps) at p =
    ap (λ z. token_of at q ++ z) (tokens_more ps (place_after at q.text) p) ∙ sym (append_assoc (token_of at q) (tokens_of (place_after at q.text) ps) (token_of (past (place_after at q.text) ps) p))

past_more : (ps : List Written) (at : Place) (p : Written) → past at (ps ++ p ∷ []) ≡ place_after (past at ps) p.text
past_more [] at p = refl
past_more (q ∷ ps) at p = past_more ps (place_after at q.text) p

-- one more piece
pub reads_more : (from to next : Position) (ts : List TokenData) (p : Written) → ReadsTokens from to ts → IsNext to.rest p.piece p.text next.rest → next.place ≡ place_after to.place p.text → ReadsTokens from next (ts ++ token_of to.place p)
reads_more from to next ts p k n e = record {
  pieces = k.pieces ++ p ∷ [];
  divides = divides_more k.pieces from.rest to.rest next.rest p k.divides n;
  tokens = tokens_more k.pieces from.place p ∙ (λ i. k.tokens i ++ token_of (k.place i) p);
  place = past_more k.pieces from.place p ∙ ap (λ z. place_after z p.text) k.place ∙ sym e;
}

pub reads_nothing : (from : Position) → ReadsTokens from from []
reads_nothing from = record { pieces = []; divides = refl; tokens = refl; place = refl }

-- what the scan finds, for a place that goes on from here to there
module _ (from to next : Position) (reads : ReadsTokens from to []) (u : List ℕ) (place : next.place ≡ place_after to.place u) where
  pub reads_blank : IsNext to.rest Blank u next.rest → ReadsTokens from next []
  reads_blank n = reads_more from to next [] (record { piece = Blank; text = u }) reads n place

  pub reads_comment : IsNext to.rest Comment u next.rest → ReadsTokens from next []
  reads_comment n = reads_more from to next [] (record { piece = Comment; text = u }) reads n place

  pub reads_token : (kind : TokenKind) → IsNext to.rest (Token kind) u next.rest → ReadsTokens from next (record { kind = kind; place = to.place; text = encode_utf8_all u } ∷ [])
  reads_token kind n = reads_more from to next [] (record { piece = Token kind; text = u }) reads n place
