-- Names in scope, by their bytes.
use Rattle.std.proofs.Common.{◌≡◌, ℕ, zero, suc, List, [], ◌∷◌, ◌++◌, take, false, cond, Option, Some, None, String, Global, string_bytes, refl, ap}
use Rattle.std.specs.Map.{lookup}
use Rattle.std.specs.Option.{is_some}
use Rattle.std.specs.Str.{bytes_eq}
use Rattle.qvt_types_states.specs.Scopes.{by_bytes}
use Rattle.qvt_types_states.specs.declared.scope.Known.{Known}

pub lookup-by_bytes : (name : List ℕ) (es : List (String Global × Known)) → lookup (λ k. bytes_eq name (string_bytes k)) es ≡ lookup (bytes_eq name) (by_bytes es)
lookup-by_bytes name [] = refl
lookup-by_bytes name (e ∷ es) = ap (cond (bytes_eq name (string_bytes e.0)) (Some e.1)) (lookup-by_bytes name es)

pub by_bytes-last : (es : List (String Global × Known)) (k : String Global) (v : Known) → by_bytes (es ++ (k, v) ∷ []) ≡ by_bytes es ++ (string_bytes k, v) ∷ []
by_bytes-last [] k v = refl
by_bytes-last (e ∷ es) k v = ap (λ xs. (string_bytes e.0, e.1) ∷ xs) (by_bytes-last es k v)

pub by_bytes-take : (n : ℕ) (es : List (String Global × Known)) → by_bytes (take n es) ≡ take n (by_bytes es)
by_bytes-take zero es = refl
by_bytes-take (suc n) [] = refl
by_bytes-take (suc n) (e ∷ es) = ap (λ xs. (string_bytes e.0, e.1) ∷ xs) (by_bytes-take n es)

pub not_known : (o : Option Known) → is_some o ≡ false → o ≡ None
not_known None e = refl
not_known (Some k) e = absurd (cc)
