-- A number past the last metamodel is that of no class.
use Rattle.std.proofs.Common.{◌≡◌, ℕ, ◌≤◌, ◌<◌, List, [], ◌∷◌, length, get_or, suc, false, None, refl, arith, ◌==◌, ◌&&◌, ◌||◌}
use Rattle.std.specs.List.{list_any}
use Rattle.std.specs.Str.{bytes_eq}
use Rattle.std.proofs.lemmas.Bool.{eqb-true}
use Rattle.qvt_metamodel.specs.declared.info.ClassInfo.{ClassInfo}
use Rattle.qvt_metamodel.specs.Metamodels.{Metamodels, nowhere_class}
use Rattle.qvt_metamodel.specs.Named.{class_named}
use Rattle.qvt_metamodel.specs.WellFormed.{IsWellFormed}
use Rattle.qvt_metamodel.proofs.Bools.{ap2, no-and, not_true}
use Rattle.qvt_metamodel.proofs.Positions.{no-position}

none_of : (k n : ℕ) (name : List ℕ) (ks : List ClassInfo) → n ≤ k → ((c : ℕ) → c < length ks → (get_or ks c nowhere_class).metamodel < n) → list_any (λ (x : ClassInfo). (x.metamodel == k) && bytes_eq name x.name) ks ≡ false
none_of k n name [] l live = refl
none_of k n name (x ∷ ks) l live =
    let low : x.metamodel < n = live 0 (omega arith) in
    ap2 (λ a b. a || b) (no-and (x.metamodel == k) (bytes_eq name x.name) (not_true (x.metamodel == k) (λ h. (let same : x.metamodel ≡ k = eqb-true x.metamodel k h in omega (arith, same, low, l)))))
    (none_of k n name ks l (λ c h. live (suc c) (omega (arith, h))))

pub no_class : (m : Metamodels) (k : ℕ) (name : List ℕ) → IsWellFormed m → length m.metamodels ≤ k → class_named m k name ≡ None
no_class m k name wm l = no-position (λ (x : ClassInfo). (x.metamodel == k) && bytes_eq name x.name) m.classes (none_of k (length m.metamodels) name m.classes l wm.live_metamodel)
