-- What the data of an object hold for each feature of its class: what the object holds.
use Rattle.std.proofs.Common.{◌≡◌, ℕ, ◌≤◌, Bool, true, false, ◌==◌, ◌||◌, cond, inl, inr, refl, sym, ap, ◌∙◌, subst, List, [], ◌∷◌, map, length, nat_lt, ltb-false, arith}
use Rattle.std.specs.List.{list_any, filter, filter_map, AllByRecursion}
use Rattle.std.proofs.lemmas.Bool.Decides.{Decides-eqb}
use Rattle.qvt_base.specs.declared.numbers.FeatureNo.{FeatureNo}
use Rattle.qvt_metamodel.specs.Metamodels.{features_of, among_features, has_feature}
use Rattle.qvt_relation.proofs.Bools.{or_cases, or_left, or_right, none_left, none_right, either, clash, refuted}
use Rattle.qvt_store.specs.Contents.{Contents, class_of, slot_of}
use Rattle.qvt_model.specs.declared.data.SlotData.{SlotData}
use Rattle.qvt_model.specs.Extents.{datum_in, slot_data_of, by_name, filled_slots}
use Rattle.qvt_model.specs.Items.{items_in}
use Rattle.qvt_model.specs.Reading.{has_items}
use Rattle.qvt_model.proofs.Extents.{filled-all}
use Rattle.qvt_value.proofs.Sorting.{any-sorted}

-- one of the slots is that of feature f
abbrev has_slot : ℕ → List SlotData → Bool
has_slot f ts = list_any (λ (t : SlotData). t.feature.0 == f) ts

abbrev feature : ℕ → FeatureNo
feature f = record { 0 = f }

empty : {X : Type 0} (xs : List X) → nat_lt 0 (length xs) ≡ false → xs ≡ []
empty [] n = refl
empty (x ∷ xs) n = let q : length (x ∷ xs) ≤ 0 = ltb-false 0 (length (x ∷ xs)) n in absurd (omega arith)

-- ---- the slots of an object

module _ (s : Contents) (xs : List ℕ) (x : ℕ) where
  abbrev filled_of : List FeatureNo → List SlotData
  filled_of fs = filter has_items (map (slot_data_of s xs x) fs)

  -- a slot with items is among them
  each-there : (f : ℕ) (fs : List FeatureNo) → among_features f fs ≡ true → has_items (slot_data_of s xs x (feature f)) ≡ true → has_slot f (filled_of fs) ≡ true
  each-there f [] h some = clash false h refl
  each-there f (g ∷ fs) h some = elim (or_cases (g.0 == f) (among_features f fs) h) [
    | inl here ↦ first (has_items (slot_data_of s xs x g)) here (subst (λ k. has_items (slot_data_of s xs x (feature k)) ≡ true) (sym ((Decides-eqb g.0 f).0 here)) some)
    | inr later ↦ behind (has_items (slot_data_of s xs x g)) (each-there f fs later some)
  ]
    where
      first : (b : Bool) → (g.0 == f) ≡ true → b ≡ true → has_slot f (cond b (slot_data_of s xs x g ∷ filled_of fs) (filled_of fs)) ≡ true
      first true here e = or_left (g.0 == f) (has_slot f (filled_of fs)) here
      first false here e = clash false e refl

      behind : (b : Bool) → has_slot f (filled_of fs) ≡ true → has_slot f (cond b (slot_data_of s xs x g ∷ filled_of fs) (filled_of fs)) ≡ true
      behind true later = or_right (g.0 == f) (has_slot f (filled_of fs)) later
      behind false later = later

  filled-there : (f : ℕ) → has_feature s.metas (class_of s x) f ≡ true → has_items (slot_data_of s xs x (feature f)) ≡ true → has_slot f (filled_slots s xs x) ≡ true
  filled-there f of some =
      any-sorted (by_name s.metas) (λ (t : SlotData). t.feature.0 == f) (filled_of (features_of s.metas (class_of s x)))
      ∙ each-there f (features_of s.metas (class_of s x)) of some

  -- ---- what they hold

  abbrev pub IsHeld : SlotData → Type 0
  IsHeld t = t.items ≡ filter_map (datum_in xs) (slot_of s x t.feature.0)

  every : (fs : List FeatureNo) → AllByRecursion (λ (f : FeatureNo). has_items (slot_data_of s xs x f) ≡ true → IsHeld (slot_data_of s xs x f)) fs
  every [] = tt
  every (f ∷ fs) = ((λ some. refl), every fs)

  pub are_held : AllByRecursion IsHeld (filled_slots s xs x)
  are_held = filled-all s xs x IsHeld (every (features_of s.metas (class_of s x)))

  held-there : (f : ℕ) (ts : List SlotData) → AllByRecursion IsHeld ts → has_slot f ts ≡ true → items_in f ts ≡ filter_map (datum_in xs) (slot_of s x f)
  held-there f [] a h = clash false h refl
  held-there f (t ∷ ts) a h = by (t.feature.0 == f) refl (held-there f ts a.1) h
    where
      by : (b : Bool) → (t.feature.0 == f) ≡ b → (has_slot f ts ≡ true → items_in f ts ≡ filter_map (datum_in xs) (slot_of s x f)) → (b || has_slot f ts) ≡ true
          → cond b t.items (items_in f ts) ≡ filter_map (datum_in xs) (slot_of s x f)
      by true e rest h = a.0 ∙ ap (λ g. filter_map (datum_in xs) (slot_of s x g)) ((Decides-eqb t.feature.0 f).0 e)
      by false e rest h = rest h

  none-there : (f : ℕ) (ts : List SlotData) → has_slot f ts ≡ false → items_in f ts ≡ []
  none-there f [] n = refl
  none-there f (t ∷ ts) n = ap (λ b. cond b t.items (items_in f ts)) (none_left (t.feature.0 == f) (has_slot f ts) n) ∙ none-there f ts (none_right (t.feature.0 == f) (has_slot f ts) n)

  pub items_are : (f : ℕ) → has_feature s.metas (class_of s x) f ≡ true → items_in f (filled_slots s xs x) ≡ filter_map (datum_in xs) (slot_of s x f)
  items_are f of = elim (either (has_slot f (filled_slots s xs x))) [
    | inl h ↦ held-there f (filled_slots s xs x) are_held h
    | inr n ↦ none-there f (filled_slots s xs x) n
        ∙ sym (empty (filter_map (datum_in xs) (slot_of s x f))
        (refuted (has_items (slot_data_of s xs x (feature f))) (λ some. clash (has_slot f (filled_slots s xs x)) (filled-there f of some) n)))
  ]
