-- Numbers of a set that is looked up by hash.
use Rattle.std.proofs.Common.{◌≡◌, ℕ, ◌==◌, ◌||◌, sym, refl, ap, List, [], ◌∷◌, ◌++◌, eq-eqb, eqb-true, nat_eq}
use Rattle.std.specs.Prelude.{if◌then◌else◌}
use Rattle.std.specs.List.{list_any}
use Rattle.indexmap.specs.IndexSet.{insert_key}
use Rattle.qvt_relation.proofs.Bools.{same_test}
use Rattle.qvt_meaning.specs.Program.{with_number}
use Rattle.qvt_exec_resolves.specs.Numbers.{has}

flipped : (x y : ℕ) → (x == y) ≡ (y == x)
flipped x y = same_test (x == y) (y == x) (λ h. eq-eqb y x (sym (eqb-true x y h))) (λ h. eq-eqb x y (sym (eqb-true y x h)))

pub held : (ks : List ℕ) (k : ℕ) → list_any (nat_eq k) ks ≡ has ks k
held [] k = refl
held (j ∷ ks) k = λ i. flipped k j i || held ks k i

pub put : (ks : List ℕ) (k : ℕ) → insert_key nat_eq ks k ≡ with_number ks k
put ks k = ap (λ b. if b then ks else ks ++ k ∷ []) (held ks k)
