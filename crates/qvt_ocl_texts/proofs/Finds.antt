-- Where the bytes of one text first stand in another.
use Rattle.std.proofs.Common.{◌≡◌, ◌≢◌, ℕ, zero, suc, ◌+◌, ◌<◌, ◌≤◌, Bool, true, false, cond, List, [], ◌∷◌, ◌++◌, length, take, drop, refl, sym, ap, ◌∙◌, eqb, arith}
use Rattle.std.specs.Prelude.{Some, None}
use Rattle.std.specs.Option.{option_map}
use Rattle.std.specs.List.{starts_with}
use Rattle.std.specs.Prelude.{slice_range, ◌==◌, ◌-◌}
use Rattle.std.specs.Str.{chars, IsCharBoundary}
use Rattle.std.specs.Str.Pattern.{FindsText, LacksTextAt}
use lib.Pointwise.{bytes_decides}
use Rattle.std.proofs.lemmas.List.{take-append-drop}
use Rattle.qvt_ocl_words.specs.Strings.{first_at, after_characters, index_in}

take_own : (t r : List ℕ) → take (length t) (t ++ r) ≡ t
take_own [] r = refl
take_own (x ∷ t) r = ap (λ l. x ∷ l) (take_own t r)

starts : (s t rest : List ℕ) → s ≡ t ++ rest → starts_with eqb s t ≡ true
starts s t rest e = (bytes_decides t (take (length t) s)).1 (sym (ap (take (length t)) e ∙ take_own t rest))

starts_not : (s t : List ℕ) → ((rest : List ℕ) → s ≢ t ++ rest) → starts_with eqb s t ≡ false
starts_not s t h = go (starts_with eqb s t) refl
  where
    go : (b : Bool) → starts_with eqb s t ≡ b → b ≡ false
    go false e = refl
    go true e = absurd (h (drop (length t) s) (sym (take-append-drop (length t) s) ∙ ap (λ f. f ++ drop (length t) s) (sym ((bytes_decides t (take (length t) s)).0 e))))

pub found : (t s rest : List ℕ) (i : ℕ) → i ≤ length s → ((k : ℕ) → k < i → LacksTextAt t s k) → drop i s ≡ t ++ rest → first_at t s ≡ Some i
found t [] rest zero l h e = ap (λ b. cond b (Some 0) None) (starts [] t rest e)
found t [] rest (suc i) l h e = absurd (omega arith)
found t (b ∷ bs) rest zero l h e = ap (λ c. cond c (Some 0) (option_map suc (first_at t bs))) (starts (b ∷ bs) t rest e)
found t (b ∷ bs) rest (suc i) l h e =
    ap (λ c. cond c (Some 0) (option_map suc (first_at t bs))) (starts_not (b ∷ bs) t (h 0 (omega arith)))
    ∙ ap (option_map suc) (found t bs rest i (omega arith) (λ k m. h (suc k) (omega arith)) e)

pub not_found : (t s : List ℕ) → ((k : ℕ) → k ≤ length s → LacksTextAt t s k) → first_at t s ≡ None
not_found t [] h = ap (λ b. cond b (Some 0) None) (starts_not [] t (h 0 (omega arith)))
not_found t (b ∷ bs) h =
    ap (λ c. cond c (Some 0) (option_map suc (first_at t bs))) (starts_not (b ∷ bs) t (h 0 (omega arith)))
    ∙ ap (option_map suc) (not_found t bs (λ k m. h (suc k) (omega arith)))

-- what a search that finds gives, and one that does not
pub index_at : (t s piece : List ℕ) (i n : ℕ) → (length s == 0) ≡ false → (j : ℕ) × FindsText t s (Some (i, j)) × (i ≤ j) × IsCharBoundary s i × IsCharBoundary s j → n ≡ length (chars piece) → piece ≡ slice_range s 0 i → n + 1 ≡ index_in t s
index_at t [] piece i n z h e p = cc
index_at t (b ∷ bs) piece i n z h e p =
    let less : i - 0 ≡ i = omega arith in
    ap (λ k. k + 1) (e ∙ ap (λ q. length (chars q)) p ∙ ap (λ k. length (chars (take k (b ∷ bs)))) less)
    ∙ sym (ap (after_characters (b ∷ bs)) (found t (b ∷ bs) (drop h.0 (b ∷ bs)) i h.3.0 h.1.0 h.1.1.split))

pub index_none : (t s : List ℕ) → ((i : ℕ) → i ≤ length s → LacksTextAt t s i) → 0 ≡ index_in t s
index_none t [] h = refl
index_none t (b ∷ bs) h = sym (ap (after_characters (b ∷ bs)) (not_found t (b ∷ bs) h))
