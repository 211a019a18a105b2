-- What the parts of a chain of steps gave, where the whole has a value.
use Rattle.std.proofs.Common.{◌≡◌, ◌∙◌, ℕ, List, [], ◌∷◌, map, Bool, true, false, cond, not, ◌||◌, Option, Some, None, find, Result, Ok, Err, refl, sym, ap, subst}
use Rattle.std.specs.Prelude.{⊤, option_map}
use Rattle.std.specs.List.{list_any, AllByRecursion}
use Rattle.std.specs.Str.{bytes_eq}
use Rattle.serde_json.specs.Data.{Data, Items, no_items, item}
use Rattle.qvt_repeats.proofs.Repeating.{repeats_none}
use Rattle.qvt_json.specs.Json.{map_items}
use Rattle.qvt_results.specs.Bind.{◌>>=◌}
use Rattle.qvt_json.specs.Steps.{or_fault, none_of, or_next, each_item, all_items}
use Rattle.qvt_json.specs.Repeated.{repeated}
use Rattle.qvt_json.proofs.Ordered.{some-injective, both-some, map-some, IsOrdered, ItemsOrdered}
use Rattle.qvt_model.specs.WellFormed.{none_repeats}
use Rattle.qvt_model.proofs.Lists.{bytes_eq-flip}

pub ok-injective : {A F : Type 0} (x y : A) → ◌≡◌ {A = Result A F} (Ok x) (Ok y) → x ≡ y
ok-injective x y e = cc

pub ok-bind : {A B F : Type 0} (r : Result A F) (f : A → Result B F) (y : B) → (r >>= f) ≡ Ok y → (x : A) × (r ≡ Ok x) × (f x ≡ Ok y)
ok-bind (Ok x) f y e = (x, refl, e)
ok-bind (Err e') f y e = absurd (cc)

pub ok-or_fault : {A F : Type 0} (fault : F) (o : Option A) (x : A) → or_fault fault o ≡ Ok x → o ≡ Some x
ok-or_fault fault None x e = absurd (cc)
ok-or_fault fault (Some y) x e = ap Some (ok-injective y x e)

pub ok-none_of : {F : Type 0} (o : Option F) (u : ⊤) → none_of o ≡ Ok u → o ≡ None
ok-none_of None u e = refl
ok-none_of (Some f) u e = absurd (cc)

pub neither : {F : Type 0} (o p : Option F) → or_next o p ≡ None → (o ≡ None) × (p ≡ None)
neither None p e = (refl, e)
neither (Some f) p e = absurd (cc)

-- where each item that is read has two readings
pub each_item-through : {X Y F : Type 0} (f : Data → Result X F) (g : Data → Result Y F) (h : Y → X) → ((d : Data) (y : Y) → g d ≡ Ok y → f d ≡ Ok (h y))
    → (ds : Items) (ys : List Y) → each_item g ds ≡ Ok ys → each_item f ds ≡ Ok (map h ys)
each_item-through f g h same no_items ys e = ap (λ zs. Ok (map h zs)) (ok-injective [] ys e)
each_item-through f g h same (item d ds) ys e =
    let p = ok-bind (g d) (λ y. each_item g ds >>= λ zs. Ok (y ∷ zs)) ys e in
    let q = ok-bind (each_item g ds) (λ zs. Ok (p.0 ∷ zs)) ys p.2 in
    rw (same d p.0 p.1, each_item-through f g h same ds q.0 q.1) (ap (λ zs. Ok (map h zs)) (ok-injective (p.0 ∷ q.0) ys q.2))

pub each_item-map : {X Y F : Type 0} (f : Data → X) (g : Data → Result Y F) (h : Y → X) → ((d : Data) (y : Y) → g d ≡ Ok y → h y ≡ f d)
    → (ds : Items) (ys : List Y) → each_item g ds ≡ Ok ys → map h ys ≡ map_items f ds
each_item-map f g h same no_items ys e = ap (map h) (sym (ok-injective [] ys e))
each_item-map f g h same (item d ds) ys e =
    let p = ok-bind (g d) (λ y. each_item g ds >>= λ zs. Ok (y ∷ zs)) ys e in
    let q = ok-bind (each_item g ds) (λ zs. Ok (p.0 ∷ zs)) ys p.2 in
    ap (map h) (sym (ok-injective (p.0 ∷ q.0) ys q.2)) ∙ (λ i. same d p.0 p.1 i ∷ each_item-map f g h same ds q.0 q.1 i)

pub each_item-all : {Y F : Type 0} (g : Data → Result Y F) (P Q : Y → Type 0) → ((d : Data) (y : Y) → IsOrdered d → g d ≡ Ok y → P y → Q y)
    → (ds : Items) (ys : List Y) → ItemsOrdered ds → each_item g ds ≡ Ok ys → AllByRecursion P ys → AllByRecursion Q ys
each_item-all g P Q step no_items ys o e a = subst (AllByRecursion Q) (ok-injective [] ys e) tt
each_item-all g P Q step (item d ds) ys o e a =
    let p = ok-bind (g d) (λ y. each_item g ds >>= λ zs. Ok (y ∷ zs)) ys e in
    let q = ok-bind (each_item g ds) (λ zs. Ok (p.0 ∷ zs)) ys p.2 in
    let same : p.0 ∷ q.0 ≡ ys = ok-injective (p.0 ∷ q.0) ys q.2 in
    let parts : AllByRecursion P (p.0 ∷ q.0) = subst (AllByRecursion P) (sym same) a in
    subst (AllByRecursion Q) same (step d p.0 o.0 p.1 parts.0, each_item-all g P Q step ds q.0 o.1 q.1 parts.1)

pub all_items-all : {Y : Type 0} (f : Data → Option Y) (P Q : Y → Type 0) → ((d : Data) (y : Y) → f d ≡ Some y → P y → Q y)
    → (ds : Items) (ys : List Y) → all_items f ds ≡ Some ys → AllByRecursion P ys → AllByRecursion Q ys
all_items-all f P Q step no_items ys e a = subst (AllByRecursion Q) (some-injective [] ys e) tt
all_items-all f P Q step (item d ds) ys e a =
    let p = both-some (λ y. option_map (λ zs. y ∷ zs) (all_items f ds)) (f d) ys e in
    let q = map-some (λ zs. p.0 ∷ zs) (all_items f ds) ys p.2 in
    let parts : AllByRecursion P (p.0 ∷ q.0) = subst (AllByRecursion P) (sym q.2) a in
    subst (AllByRecursion Q) q.2 (step d p.0 p.1 parts.0, all_items-all f P Q step ds q.0 q.1 parts.1)

-- what is found passes the test, and so the list has what passes it
pub find-some : {X : Type 0} (p : X → Bool) (xs : List X) (x : X) → find p xs ≡ Some x → p x ≡ true
find-some p [] x e = absurd (cc)
find-some p (y ∷ xs) x e = by (find-some p xs x) (p y) refl e
  where
    by : (find p xs ≡ Some x → p x ≡ true) → (b : Bool) → p y ≡ b → cond b (Some y) (find p xs) ≡ Some x → p x ≡ true
    by rest true is e = ap p (sym (some-injective y x e)) ∙ is
    by rest false is e = rest e

pub find-any : {X : Type 0} (p q : X → Bool) (xs : List X) (x : X) → find p xs ≡ Some x → q x ≡ true → list_any q xs ≡ true
find-any p q [] x e h = absurd (cc)
find-any p q (y ∷ xs) x e h = by (find-any p q xs x) (p y) e
  where
    or-true : (a b : Bool) → b ≡ true → (a || b) ≡ true
    or-true true b e = refl
    or-true false b e = e

    by : (find p xs ≡ Some x → q x ≡ true → list_any q xs ≡ true) → (b : Bool) → cond b (Some y) (find p xs) ≡ Some x → list_any q (y ∷ xs) ≡ true
    by rest true e = rw (ap q (some-injective y x e) ∙ h) refl
    by rest false e = or-true (q y) (list_any q xs) (rest e h)

pub differ-repeated : (xs : List (List ℕ)) → repeated [] xs ≡ None → none_repeats xs ≡ true
differ-repeated xs e = ap not (repeats_none bytes_eq bytes_eq-flip xs e)
