-- Slices of a text by offsets.
use Rattle.std.proofs.Common.{◌≡◌, ℕ, ◌+◌, ◌-◌, ◌<◌, ◌≤◌, ◌^◌, List, ◌++◌, length, take, drop, refl, sym, ap, ◌∙◌, arith, length-append}
use Rattle.std.proofs.lemmas.List.{drop-drop, drop_at, take_at}
use Rattle.std.specs.Char.{encode_utf8, len_utf8}
use Rattle.std.proofs.lemmas.Str.{length-encode}
use Rattle.std.specs.List.{slice_range}
use Rattle.qvt_lexer.specs.Cursors.{Spans}
use Rattle.qvt_lexer.specs.declared.cursor.Cursor.{Cursor}
use Rattle.qvt_lexer.specs.declared.token.Token.{Token}

drop_past : (n k : ℕ) (xs b zs : List ℕ) → drop n xs ≡ b ++ zs → n + length b ≡ k → drop k xs ≡ zs
drop_past n k xs b zs e h = ap (λ z. drop z xs) (sym h) ∙ sym (drop-drop (length b) n xs) ∙ ap (drop (length b)) e ∙ drop_at b zs (length b) refl

module _ (source : List ℕ) (from : Cursor) (t : Token) (to : Cursor) (left : drop from.place.offset source ≡ from.rest.now) (k : Spans from t to) where
  token_left : drop t.place.offset source ≡ t.text.now ++ to.rest.now
  token_left = drop_past from.place.offset t.place.offset source k.before (t.text.now ++ to.rest.now) (left ∙ k.cut) k.offset

  pub after_left : drop to.place.offset source ≡ to.rest.now
  after_left = drop_past t.place.offset to.place.offset source t.text.now to.rest.now token_left k.after

  pub offset_left : from.place.offset + length from.rest.now ≡ length source → to.place.offset + length to.rest.now ≡ length source
  offset_left h =
      omega (arith, h, k.offset, k.after, ap length k.cut, length-append k.before (t.text.now ++ to.rest.now), length-append t.text.now to.rest.now)

  pub token_slice : slice_range source t.place.offset (t.place.offset + length t.text.now) ≡ t.text.now
  token_slice =
      ap (take ((t.place.offset + length t.text.now) - t.place.offset)) token_left
      ∙ take_at t.text.now to.rest.now ((t.place.offset + length t.text.now) - t.place.offset) (omega arith)

-- after the character U+FEFF
pub after_mark : (text rest : List ℕ) (c : ℕ) → text ≡ encode_utf8 c ++ rest → c ≡ 65279 → length text + 1 < 2 ^ 32
    → (drop 3 text ≡ rest) × (3 + length rest ≡ length text) × ((1 ≤ 4) × (2 ≤ 4) × (3 + length rest + 1 < 2 ^ 32))
after_mark text rest c e h room =
    let three : length (encode_utf8 c) ≡ 3 = length-encode c ∙ ap len_utf8 h in
    let all : 3 + length rest ≡ length text = omega (arith, three, ap length e, length-append (encode_utf8 c) rest) in
    (ap (drop 3) e ∙ drop_at (encode_utf8 c) rest 3 three, all, (omega arith, omega arith, omega (arith, all, room)))
