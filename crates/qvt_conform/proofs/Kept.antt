-- An object none of whose slots breaks anything, and whose class asks for no item that is not there, has no fault of its features.
use Rattle.std.proofs.Common.{◌≡◌, ◌∙◌, ℕ, ◌==◌, List, [], ◌∷◌, Bool, true, false, not, ◌||◌, ◌&&◌, nat_le, nat_lt, is_some, refl, sym, ap, subst, arith}
use Rattle.std.specs.Prelude.{Option, Some, None, option_map, if◌then◌else◌}
use Rattle.std.proofs.lemmas.Bool.{eqb-true, eq-eqb, le-leb, ltb-false, or_left, or_right}
use Rattle.qvt_base.specs.declared.numbers.FeatureNo.{FeatureNo}
use Rattle.qvt_json.specs.Steps.{or_next}
use Rattle.qvt_metamodel.specs.declared.info.FeatureShape.{FeatureShape}
use Rattle.qvt_metas.specs.Metamodels.{Metamodels, shape_of, opposite, among_features, features_of}
use Rattle.qvt_model.specs.Items.{items_in}
use Rattle.qvt_model.specs.declared.data.SlotData.{SlotData}
use Rattle.qvt_model.specs.declared.data.ObjectData.{ObjectData}
use Rattle.qvt_conform.specs.declared.links.ObjectLink.{ObjectLink}
use Rattle.qvt_conform.specs.declared.breach.Breach.{Breach}
use Rattle.qvt_conform.specs.declared.breach.Breach.TheVariants.{Bounds as BoundsBroken, NotUnique as UniqueBroken, Opposite as OppositeBroken}
use Rattle.qvt_repeats.specs.Repeats.{repeats_by}
use Rattle.qvt_conform.specs.Items.{is_at_most, is_within, same_item}
use Rattle.qvt_conform.specs.Breaches.{lack_links, breach_of, fault_of, are_kept}
use Rattle.qvt_conform.specs.Asked.{asks, has_slot, AreMet}
use Rattle.qvt_conform.specs.Lacking.{feature_fault_by, features_fault_by}

no_items : (f : ℕ) (ts : List SlotData) → has_slot ts f ≡ false → items_in f ts ≡ []
no_items f [] h = refl
no_items f (t ∷ ts) h = by (t.feature.0 == f) h (no_items f ts)
  where
    by : (b : Bool) → (b || has_slot ts f) ≡ false → (has_slot ts f ≡ false → items_in f ts ≡ []) → (if b then t.items else items_in f ts) ≡ []
    by true e ih = cc
    by false e ih = ih e

none_is : (o : Option Breach) → not (is_some o) ≡ true → o ≡ None
none_is None h = refl
none_is (Some b) h = cc

first_true : (a b : Bool) → (a && b) ≡ true → a ≡ true
first_true true b h = refl
first_true false b h = cc

second_true : (a b : Bool) → (a && b) ≡ true → b ≡ true
second_true true b h = h
second_true false b h = cc

kept_at : (m : Metamodels) (ls : List ObjectLink) (i f : ℕ) (ts : List SlotData) → are_kept m ls i ts ≡ true → has_slot ts f ≡ true → breach_of m ls i f (items_in f ts) ≡ None
kept_at m ls i f [] k h = cc
kept_at m ls i f (t ∷ ts) k h = by (t.feature.0 == f) refl h (kept_at m ls i f ts (second_true (not (is_some (breach_of m ls i t.feature.0 t.items))) (are_kept m ls i ts) k))
  where
    by : (b : Bool) → (t.feature.0 == f) ≡ b → (b || has_slot ts f) ≡ true → (has_slot ts f ≡ true → breach_of m ls i f (items_in f ts) ≡ None)
        → breach_of m ls i f (if b then t.items else items_in f ts) ≡ None
    by true e there ih = subst (λ g. breach_of m ls i g t.items ≡ None) (eqb-true t.feature.0 f e)
        (none_is (breach_of m ls i t.feature.0 t.items) (first_true (not (is_some (breach_of m ls i t.feature.0 t.items))) (are_kept m ls i ts) k))
    by false e there ih = ih there

unasked : (n : ℕ) → nat_lt 0 n ≡ false → nat_le n 0 ≡ true
unasked n h = le-leb n 0 (ltb-false 0 n h)

within_nothing : (shape : FeatureShape) → nat_lt 0 shape.lower ≡ false → is_within shape 0 ≡ true
within_nothing shape h = λ k. unasked shape.lower h k && most shape.upper k
  where
    most : (o : Option ℕ) → is_at_most 0 o ≡ true
    most None = refl
    most (Some n) = le-leb 0 n (omega arith)

nothing_twice : (b : Bool) → (b && repeats_by same_item []) ≡ false
nothing_twice true = refl
nothing_twice false = refl

nothing_lacks : (ls : List ObjectLink) (o : Option FeatureNo) (i : ℕ) → lack_links ls o i [] ≡ false
nothing_lacks ls None i = refl
nothing_lacks ls (Some q) i = refl

nothing_broken : (m : Metamodels) (ls : List ObjectLink) (i f : ℕ) → asks m f ≡ false → breach_of m ls i f [] ≡ None
unfolding breach_of
nothing_broken m ls i f h = λ k.
    if not (within_nothing (shape_of m f) h k) then Some BoundsBroken
    else (if nothing_twice (shape_of m f).unique k then Some UniqueBroken
    else (if nothing_lacks ls (opposite m f) i k then Some OppositeBroken
    else None))

feature_kept : (m : Metamodels) (ls : List ObjectLink) (i : ℕ) (o : ObjectData) (f : FeatureNo) → are_kept m ls i o.slots ≡ true
    → (asks m f.0 ≡ true → has_slot o.slots f.0 ≡ true) → feature_fault_by m ls i o f ≡ None
unfolding feature_fault_by
feature_kept m ls i o f kept met = ap (option_map (fault_of m o f.0)) (by (has_slot o.slots f.0) refl (asks m f.0) refl)
  where
    by : (b : Bool) → has_slot o.slots f.0 ≡ b → (a : Bool) → asks m f.0 ≡ a → breach_of m ls i f.0 (items_in f.0 o.slots) ≡ None
    by true there a e = kept_at m ls i f.0 o.slots kept there
    by false there false e = subst (λ xs. breach_of m ls i f.0 xs ≡ None) (sym (no_items f.0 o.slots there)) (nothing_broken m ls i f.0 e)
    by false there true e = (let d : true ≡ false = sym (met e) ∙ there in absurd cc)

features_kept : (m : Metamodels) (ls : List ObjectLink) (i : ℕ) (o : ObjectData) (fs : List FeatureNo) → are_kept m ls i o.slots ≡ true
    → ((f : ℕ) → among_features f fs ≡ true → asks m f ≡ true → has_slot o.slots f ≡ true) → features_fault_by m ls i o fs ≡ None
features_kept m ls i o [] kept met = refl
features_kept m ls i o (f ∷ fs) kept met = λ k. or_next
    (feature_kept m ls i o f kept (met f.0 (or_left (f.0 == f.0) (among_features f.0 fs) (eq-eqb f.0 f.0 refl))) k)
    (features_kept m ls i o fs kept (λ g h. met g (or_right (f.0 == g) (among_features g fs) h)) k)

pub nothing_told : (m n : Metamodels) (ls : List ObjectLink) (i : ℕ) (o : ObjectData) (ts : List SlotData) → ts ≡ o.slots → n ≡ m → are_kept m ls i ts ≡ true → AreMet n (features_of n o.class.0) ts
    → features_fault_by m ls i o (features_of m o.class.0) ≡ None
nothing_told m n ls i o ts is same kept met =
    features_kept m ls i o (features_of m o.class.0) (subst (λ us. are_kept m ls i us ≡ true) is kept)
    (subst (λ us. (f : ℕ) → among_features f (features_of m o.class.0) ≡ true → asks m f ≡ true → has_slot us f ≡ true) is
    (subst (λ (x : Metamodels). (f : ℕ) → among_features f (features_of x o.class.0) ≡ true → asks x f ≡ true → has_slot ts f ≡ true) same met.each))
