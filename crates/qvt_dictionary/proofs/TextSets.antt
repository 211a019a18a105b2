-- A set of texts that is kept by hash, beside the list of these texts.
use Rattle.std.proofs.Common.{◌≡◌, ℕ, suc, List, [], ◌∷◌, ◌++◌, length, map, cond, not, nat_lt, Some, None, position, String, Global, string_bytes, refl, sym, ap, ◌+◌}
use Rattle.std.specs.List.{list_any, position_or_len}
use Rattle.std.specs.Str.{bytes_eq}

pub any-texts : (id : List ℕ) (keys : List (String Global)) → list_any (λ k. bytes_eq id (string_bytes k)) keys ≡ list_any (bytes_eq id) (map string_bytes keys)
any-texts id [] = refl
any-texts id (k ∷ keys) = rw (any-texts id keys) refl

length-texts : (keys : List (String Global)) → length (map string_bytes keys) ≡ length keys
length-texts [] = refl
length-texts (k ∷ keys) = ap suc (length-texts keys)

front-texts : (id : List ℕ) (keys : List (String Global)) → position_or_len (λ k. bytes_eq id (string_bytes k)) keys ≡ position_or_len (bytes_eq id) (map string_bytes keys)
front-texts id [] = refl
front-texts id (k ∷ keys) = ap (λ n. cond (not (bytes_eq id (string_bytes k))) (1 + n) 0) (front-texts id keys)

pub position-texts : (id : List ℕ) (keys : List (String Global)) → position (λ k. bytes_eq id (string_bytes k)) keys ≡ position (bytes_eq id) (map string_bytes keys)
position-texts id keys = λ i. cond (nat_lt (front-texts id keys i) (sym (length-texts keys) i)) (Some (front-texts id keys i)) None

pub texts-push : (keys : List (String Global)) (k : String Global) → map string_bytes (keys ++ k ∷ []) ≡ map string_bytes keys ++ string_bytes k ∷ []
texts-push [] k = refl
texts-push (x ∷ keys) k = ap (λ ts. string_bytes x ∷ ts) (texts-push keys k)
