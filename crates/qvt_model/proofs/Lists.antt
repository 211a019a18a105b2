-- Lists whose every item has a property, and look-ups in them.
use Rattle.std.proofs.Common.{◌≡◌, ◌∙◌, ℕ, zero, suc, ◌+◌, ◌<◌, List, [], ◌∷◌, ◌++◌, length, map, Bool, true, false, not, Option, Some, None, position, slice_index_or, refl, sym, ap, arith, lt-ltb}
use Rattle.std.specs.Prelude.{⊤}
use Rattle.std.specs.List.{list_any, position_or_len, AllByRecursion}
use Rattle.std.specs.Str.{bytes_eq}
use Rattle.std.proofs.lemmas.Bool.{or_parts}
use Rattle.std.proofs.lemmas.Slice.Eq.{bytes_eq-Decides}
use Rattle.serde_json.specs.Data.{Data}
use Rattle.serde_json.specs.View.{items_of}
use Rattle.std.proofs.Common.{Result, Ok}
use Rattle.qvt_repeats.specs.Repeats.{repeats_by}
use Rattle.qvt_repeats.proofs.Repeating.{none_by}
use Rattle.qvt_json.specs.Json.{map_items}
use Rattle.qvt_json.specs.Steps.{each_item, walk_items, all_items}
use Rattle.qvt_json.specs.Repeated.{repeated}
use Rattle.qvt_model.specs.WellFormed.{none_repeats}

pub All-weaken : {X : Type 0} (P Q : X → Type 0) (f : (x : X) → P x → Q x) (xs : List X) → AllByRecursion P xs → AllByRecursion Q xs
All-weaken P Q f [] a = tt
All-weaken P Q f (x ∷ xs) a = (f x a.0, All-weaken P Q f xs a.1)

pub All-both : {X : Type 0} (P Q R : X → Type 0) (f : (x : X) → P x → Q x → R x) (xs : List X) → AllByRecursion P xs → AllByRecursion Q xs → AllByRecursion R xs
All-both P Q R f [] a b = tt
All-both P Q R f (x ∷ xs) a b = (f x a.0 b.0, All-both P Q R f xs a.1 b.1)

pub All-index : {X : Type 0} (P : X → Type 0) (xs : List X) (i : ℕ) (d : X) → AllByRecursion P xs → i < length xs → P (slice_index_or xs i d)
All-index P [] i d a lt = absurd (omega arith)
All-index P (x ∷ xs) zero d a lt = a.0
All-index P (x ∷ xs) (suc i) d a lt = All-index P xs i d a.1 (omega arith)

pub All-push : {X : Type 0} (P : X → Type 0) (xs : List X) (x : X) → AllByRecursion P xs → P x → AllByRecursion P (xs ++ x ∷ [])
All-push P [] x a p = (p, tt)
All-push P (y ∷ xs) x a p = (a.0, All-push P xs x a.1 p)

pub index-map : {X Y : Type 0} (f : X → Y) (xs : List X) (i : ℕ) (d : X) → slice_index_or (map f xs) i (f d) ≡ f (slice_index_or xs i d)
index-map f [] i d = refl
index-map f (x ∷ xs) zero d = refl
index-map f (x ∷ xs) (suc i) d = index-map f xs i d

pub list_any-none : {X : Type 0} (p : X → Bool) (xs : List X) → AllByRecursion (λ x. p x ≡ false) xs → list_any p xs ≡ false
list_any-none p [] a = refl
list_any-none p (x ∷ xs) a = rw (a.0, list_any-none p xs a.1)

-- ---- walks over the items that stand for a list

pub each_item-is : {W Y F : Type 0} (f : Data → Result Y F) (g : W → Data) (h : W → Y) (ws : List W) → AllByRecursion (λ w. f (g w) ≡ Ok (h w)) ws → each_item f (items_of (map g ws)) ≡ Ok (map h ws)
each_item-is f g h [] a = refl
each_item-is f g h (w ∷ ws) a = rw (a.0, each_item-is f g h ws a.1)

map-same : {X : Type 0} (xs : List X) → map (λ x. x) xs ≡ xs
map-same [] = refl
map-same (x ∷ xs) = ap (λ ys. x ∷ ys) (map-same xs)

pub each_item-back : {Y F : Type 0} (f : Data → Result Y F) (g : Y → Data) (ys : List Y) → AllByRecursion (λ y. f (g y) ≡ Ok y) ys → each_item f (items_of (map g ys)) ≡ Ok ys
each_item-back f g ys a = each_item-is f g (λ y. y) ys a ∙ ap Ok (map-same ys)

pub walk_items-ok : {W F : Type 0} (f : Data → Result ⊤ F) (g : W → Data) (ws : List W) → AllByRecursion (λ w. f (g w) ≡ Ok tt) ws → walk_items f (items_of (map g ws)) ≡ Ok tt
walk_items-ok f g [] a = refl
walk_items-ok f g (w ∷ ws) a = rw a.0 (walk_items-ok f g ws a.1)

pub all_items-back : {Y : Type 0} (f : Data → Option Y) (g : Y → Data) (ys : List Y) → AllByRecursion (λ y. f (g y) ≡ Some y) ys → all_items f (items_of (map g ys)) ≡ Some ys
all_items-back f g [] a = refl
all_items-back f g (y ∷ ys) a = rw (a.0, all_items-back f g ys a.1)

pub map_items-is : {W Y : Type 0} (f : Data → Y) (g : W → Data) (h : W → Y) (ws : List W) → AllByRecursion (λ w. f (g w) ≡ h w) ws → map_items f (items_of (map g ws)) ≡ map h ws
map_items-is f g h [] a = refl
map_items-is f g h (w ∷ ws) a = rw (a.0, map_items-is f g h ws a.1)

-- ---- texts that differ

pub bytes_eq-same : (xs : List ℕ) → bytes_eq xs xs ≡ true
bytes_eq-same xs = (bytes_eq-Decides xs xs).1 refl

pub bytes_eq-flip : (xs ys : List ℕ) → bytes_eq xs ys ≡ bytes_eq ys xs
bytes_eq-flip xs ys = by (bytes_eq xs ys) (bytes_eq ys xs) refl refl
  where
    by : (a b : Bool) → bytes_eq xs ys ≡ a → bytes_eq ys xs ≡ b → a ≡ b
    by true true e f = refl
    by true false e f = sym ((bytes_eq-Decides ys xs).1 (sym ((bytes_eq-Decides xs ys).0 e))) ∙ f
    by false true e f = sym e ∙ (bytes_eq-Decides xs ys).1 (sym ((bytes_eq-Decides ys xs).0 f))
    by false false e f = refl

pub not-true : (b : Bool) → not b ≡ true → b ≡ false
not-true false e = refl
not-true true e = cc

not_first : (x : List ℕ) (xs : List (List ℕ)) (i : ℕ) → list_any (bytes_eq x) xs ≡ false → i < length xs → bytes_eq (slice_index_or xs i []) x ≡ false
not_first x [] i e lt = absurd (omega arith)
not_first x (y ∷ xs) zero e lt = bytes_eq-flip y x ∙ (or_parts (bytes_eq x y) _ e).0
not_first x (y ∷ xs) (suc i) e lt = not_first x xs i (or_parts (bytes_eq x y) _ e).1 (omega arith)

own_place : (xs : List (List ℕ)) (i : ℕ) → repeats_by bytes_eq xs ≡ false → i < length xs → position_or_len (bytes_eq (slice_index_or xs i [])) xs ≡ i
own_place [] i e lt = absurd (omega arith)
own_place (x ∷ xs) zero e lt = rw (bytes_eq-same x) refl
own_place (x ∷ xs) (suc i) e lt =
    let p = or_parts (list_any (bytes_eq x) xs) (repeats_by bytes_eq xs) e in
    rw (not_first x xs i p.0 (omega arith)) (ap (λ n. 1 + n) (own_place xs i p.1 (omega arith)) ∙ omega arith)

-- a text is found where it stands
pub position-differ : (xs : List (List ℕ)) (i : ℕ) → none_repeats xs ≡ true → i < length xs → position (bytes_eq (slice_index_or xs i [])) xs ≡ Some i
position-differ xs i e lt = rw (own_place xs i (not-true (repeats_by bytes_eq xs) e) lt, lt-ltb i (length xs) lt) refl

pub repeated-differ : (xs : List (List ℕ)) → none_repeats xs ≡ true → repeated [] xs ≡ None
repeated-differ xs e = none_by bytes_eq bytes_eq-flip xs (not-true (repeats_by bytes_eq xs) e)
