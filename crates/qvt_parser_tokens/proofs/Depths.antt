-- Lists of open items, the last one first.
use Rattle.std.proofs.Common.{◌≡◌, List, [], ◌∷◌, ◌++◌, ap, ◌∙◌}
use Rattle.std.specs.Prelude.{reverse}
use Rattle.std.proofs.lemmas.List.{reverse-append}

pub last_first : {A : Type 0} (xs new : List A) (x : A) → new ≡ xs ++ x ∷ [] → reverse new ≡ x ∷ reverse xs
last_first xs new x e = ap reverse e ∙ reverse-append xs (x ∷ [])
