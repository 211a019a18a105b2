-- The characters of encoded characters, whatever their numbers are.
use Rattle.std.proofs.Common.{◌≡◌, ℕ, zero, suc, ◌+◌, ◌-◌, ◌*◌, ◌/◌, ◌%◌, ◌<◌, ◌≤◌, List, [], ◌∷◌, ◌++◌, Bool, true, false, cond, ltb, ltb-true, refl, sym, ap, ◌∙◌, arith, append_assoc, append-nil}
use Rattle.std.specs.Str.{chars, chars_after, continuation_len, lead_bits, encode_utf8_all}
use Rattle.std.specs.Char.{encode_utf8}
use Rattle.std.proofs.lemmas.Bool.Decides.{nat_tests}
use Rattle.std.proofs.lemmas.Str.{chars-nil}

whole : (c : ℕ) (bs : List ℕ) → chars_after zero c bs ≡ c ∷ chars bs
unfolding chars
whole c [] = refl
whole c (b ∷ bs) = refl

led : (a n v : ℕ) (bs : List ℕ) → n ≡ continuation_len a → v ≡ lead_bits a → chars (a ∷ bs) ≡ chars_after n v bs
unfolding chars
led a n v bs p q = λ i. chars_after (sym p i) (sym q i) bs

module _ (c : ℕ) (rest : List ℕ) where
  pub one_byte : c < 128 → chars (c ∷ rest) ≡ c ∷ chars rest
  one_byte h = led c zero c rest (grind (arith, nat_tests)) (grind (arith, nat_tests)) ∙ whole c rest

  two_bytes : (a b : ℕ) → 192 ≤ a → a < 224 → (a - 192) * 64 + (b - 128) ≡ c → chars (a ∷ b ∷ rest) ≡ c ∷ chars rest
  two_bytes a b h l is = led a (suc zero) (a - 192) (b ∷ rest) (grind (arith, nat_tests)) (grind (arith, nat_tests)) ∙ whole ((a - 192) * 64 + (b - 128)) rest ∙ ap (λ x. x ∷ chars rest) is

  three_bytes : (a b d : ℕ) → 224 ≤ a → a < 240 → ((a - 224) * 64 + (b - 128)) * 64 + (d - 128) ≡ c → chars (a ∷ b ∷ d ∷ rest) ≡ c ∷ chars rest
  three_bytes a b d h l is =
      led a (suc (suc zero)) (a - 224) (b ∷ d ∷ rest) (grind (arith, nat_tests)) (grind (arith, nat_tests)) ∙ whole (((a - 224) * 64 + (b - 128)) * 64 + (d - 128)) rest
      ∙ ap (λ x. x ∷ chars rest) is

  four_bytes : (a b d x : ℕ) → 240 ≤ a → (((a - 240) * 64 + (b - 128)) * 64 + (d - 128)) * 64 + (x - 128) ≡ c → chars (a ∷ b ∷ d ∷ x ∷ rest) ≡ c ∷ chars rest
  four_bytes a b d x h is =
      led a (suc (suc (suc zero))) (a - 240) (b ∷ d ∷ x ∷ rest) (grind (arith, nat_tests)) (grind (arith, nat_tests))
      ∙ whole ((((a - 240) * 64 + (b - 128)) * 64 + (d - 128)) * 64 + (x - 128)) rest ∙ ap (λ y. y ∷ chars rest) is

  abbrev next : ℕ → ℕ
  next bits = 128 + bits % 64

  abbrev by_size : Bool → Bool → Bool → List ℕ
  by_size x y z = cond x (c ∷ []) (cond y ((192 + c / 64) ∷ next c ∷ []) (cond z ((224 + c / 4096) ∷ next (c / 64) ∷ next c ∷ []) ((240 + c / 262144) ∷ next (c / 4096) ∷ next (c / 64) ∷ next c ∷ [])))

  sizes : (x y z : Bool) → ltb c 128 ≡ x → ltb c 2048 ≡ y → ltb c 65536 ≡ z → chars (by_size x y z ++ rest) ≡ c ∷ chars rest
  sizes true y z e f g = one_byte (ltb-true c 128 e)
  sizes false true z e f g = let small = ltb-true c 2048 f in two_bytes (192 + c / 64) (next c) (omega arith) (omega arith) (omega arith)
  sizes false false true e f g =
      let small = ltb-true c 65536 g in
      three_bytes (224 + c / 4096) (next (c / 64)) (next c) (omega arith) (omega arith) (omega arith)
  sizes false false false e f g = four_bytes (240 + c / 262144) (next (c / 4096)) (next (c / 64)) (next c) (omega arith) (omega arith)

  pub char_before : chars (encode_utf8 c ++ rest) ≡ c ∷ chars rest
  unfolding encode_utf8
  char_before = sizes (ltb c 128) (ltb c 2048) (ltb c 65536) refl refl refl

pub chars_before : (cs rest : List ℕ) → chars (encode_utf8_all cs ++ rest) ≡ cs ++ chars rest
chars_before [] rest = refl
chars_before (c ∷ cs) rest = ap chars (append_assoc (encode_utf8 c) (encode_utf8_all cs) rest) ∙ char_before c (encode_utf8_all cs ++ rest) ∙ ap (λ z. c ∷ z) (chars_before cs rest)

pub chars_of : (cs : List ℕ) → chars (encode_utf8_all cs) ≡ cs
chars_of cs = ap chars (sym (append-nil (encode_utf8_all cs))) ∙ chars_before cs [] ∙ ap (λ z. cs ++ z) chars-nil ∙ append-nil cs
