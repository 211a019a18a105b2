-- What the items of data stand for in a store, where object i of the data is object `at i` of the store.
use Rattle.std.proofs.Common.{◌≡◌, ℕ, ◌+◌, ◌<◌, ◌≤◌, Bool, true, false, ◌==◌, cond, inl, inr, refl, sym, ap, ◌∙◌, subst, List, [], ◌∷◌, ◌++◌, map, length, arith}
use Rattle.std.specs.Prelude.{⊤, Option, Some, None, option_map, slice_index_or}
use Rattle.std.specs.List.{list_any, filter_map, cons_option, AllByRecursion}
use Rattle.std.proofs.lemmas.Bool.Decides.{Decides-eqb}
use Rattle.std.proofs.lemmas.List.Quantifiers.{position-Some}
use Rattle.qvt_repeats.specs.Repeats.{repeats_by}
use Rattle.qvt_repeats.proofs.Repeating.{repeats-map, repeats-fewer}
use Rattle.qvt_value.specs.Kept.{is_same}
use Rattle.qvt_value.specs.Order.{order_of}
use Rattle.qvt_value.specs.declared.value.Value.{Value}
use Rattle.qvt_value.specs.declared.value.Value.TheVariants.{Bool as BoolValue, Int as IntValue, Str as StrValue, Enum as EnumValue, Obj}
use Rattle.qvt_relation.proofs.Bools.{or_cases, or_left, or_right, or_false, none_left, none_right, clash, refuted}
use Rattle.qvt_cycle.specs.Successors.{among, how_often}
use Rattle.qvt_cycle.proofs.Visits.{among-joined}
use Rattle.qvt_store.specs.Slots.{is_object, has}
use Rattle.qvt_store.specs.Repeats.{repeats}
use Rattle.qvt_slots.proofs.Repeating.{same_itself, any_same_object}
use Rattle.qvt_model.specs.declared.data.Datum.{Datum}
use Rattle.qvt_model.specs.declared.data.Datum.TheVariants.{Bool as BoolDatum, Int, Str, Literal, Ref}
use Rattle.qvt_model.specs.Extents.{place_within, datum_in}
use Rattle.qvt_json.proofs.Ordered.{some-injective}
use Rattle.qvt_conform.specs.Items.{same_item, is_ref}
use Rattle.qvt_conform.proofs.SameItems.{same_is}
use Rattle.qvt_conform.specs.Containment.{refs_of, refs}

abbrev pub back : (ℕ → ℕ) → Datum → Value
back at (BoolDatum b) = BoolValue b
back at (Int z) = IntValue z
back at (Str t) = StrValue t
back at (Literal l) = EnumValue l
back at (Ref i) = Obj (record { 0 = at i })

-- if it is an object, it is one of the first n
abbrev pub IsWithin : ℕ → Datum → Type 0
IsWithin n (BoolDatum b) = ⊤
IsWithin n (Int z) = ⊤
IsWithin n (Str t) = ⊤
IsWithin n (Literal l) = ⊤
IsWithin n (Ref i) = i < n

pub count-app : (y : ℕ) (xs ys : List ℕ) → how_often y (xs ++ ys) ≡ how_often y xs + how_often y ys
count-app y [] ys = let q : how_often y ys ≡ 0 + how_often y ys = omega arith in q
count-app y (x ∷ xs) ys = let r : how_often y (xs ++ ys) ≡ how_often y xs + how_often y ys = count-app y xs ys in go (cond (x == y) 1 0) r
  where
    go : (k : ℕ) → how_often y (xs ++ ys) ≡ how_often y xs + how_often y ys → k + how_often y (xs ++ ys) ≡ k + how_often y xs + how_often y ys
    go k r = omega arith

pub absent : (xs : List ℕ) (y : ℕ) → among xs y ≡ false → how_often y xs ≡ 0
absent [] y n = refl
absent (x ∷ xs) y n =
    let r : how_often y xs ≡ 0 = absent xs y (none_right (x == y) (among xs y) n) in
    subst (λ b. cond b 1 0 + how_often y xs ≡ 0) (sym (none_left (x == y) (among xs y) n)) (let q : 0 + how_often y xs ≡ 0 = omega (arith, r) in q)

module _ (at : ℕ → ℕ) where
  -- ---- repeats

  same_values : (a b : Datum) → same_item a b ≡ true → is_same order_of (back at a) (back at b) ≡ true
  same_values a b h = subst (λ d. is_same order_of (back at a) (back at d) ≡ true) (same_is a b h) (same_itself (back at a))

  pub no_repeat : (ds : List Datum) → repeats (map (back at) ds) ≡ false → repeats_by same_item ds ≡ false
  no_repeat ds r = repeats-fewer same_item (λ a b. is_same order_of (back at a) (back at b)) same_values ds (sym (repeats-map (is_same order_of) (back at) ds) ∙ r)

  -- ---- references

  object_there : (j : ℕ) (d : Datum) → among (refs_of d) j ≡ true → is_object (at j) (back at d) ≡ true
  object_there j (BoolDatum b) h = clash false h refl
  object_there j (Int z) h = clash false h refl
  object_there j (Str t) h = clash false h refl
  object_there j (Literal l) h = clash false h refl
  object_there j (Ref i) h = (Decides-eqb (at i) (at j)).1 (ap at ((Decides-eqb i j).0 (sym (or_false (i == j)) ∙ h)))

  pub held_there : (ds : List Datum) (j : ℕ) → among (refs ds) j ≡ true → has (map (back at) ds) (at j) ≡ true
  held_there [] j h = clash false h refl
  held_there (d ∷ ds) j h = elim (among-joined (refs_of d) (refs ds) j h) [
    | inl a ↦ or_left (is_object (at j) (back at d)) (has (map (back at) ds) (at j)) (object_there j d a)
    | inr a ↦ or_right (is_object (at j) (back at d)) (has (map (back at) ds) (at j)) (held_there ds j a)
  ]

  -- without repeats an object stands once
  pub once : (ds : List Datum) (j : ℕ) → repeats (map (back at) ds) ≡ false → how_often j (refs ds) ≤ 1
  once [] j r = omega arith
  once (d ∷ ds) j r =
      by d (none_left (list_any (is_same order_of (back at d)) (map (back at) ds)) (repeats (map (back at) ds)) r)
      (once ds j (none_right (list_any (is_same order_of (back at d)) (map (back at) ds)) (repeats (map (back at) ds)) r))
    where
      at_ref : (i : ℕ) → has (map (back at) ds) (at i) ≡ false → how_often j (refs ds) ≤ 1 → (b : Bool) → (i == j) ≡ b → cond b 1 0 + how_often j (refs ds) ≤ 1
      at_ref i n rest true e =
          let none : how_often j (refs ds) ≡ 0 = absent (refs ds) j (refuted (among (refs ds) j) (λ t. clash (has (map (back at) ds) (at j)) (held_there ds j t) (subst (λ z. has (map (back at) ds) (at z) ≡ false) ((Decides-eqb i j).0 e) n))) in
          let q : 1 + how_often j (refs ds) ≤ 1 = omega (arith, none) in q
      at_ref i n rest false e = let q : 0 + how_often j (refs ds) ≤ 1 = omega (arith, rest) in q

      by : (d : Datum) → list_any (is_same order_of (back at d)) (map (back at) ds) ≡ false → how_often j (refs ds) ≤ 1 → how_often j (refs (d ∷ ds)) ≤ 1
      by (BoolDatum b) n rest = rest
      by (Int z) n rest = rest
      by (Str t) n rest = rest
      by (Literal l) n rest = rest
      by (Ref i) n rest = at_ref i (sym (any_same_object (record { 0 = at i }) (map (back at) ds)) ∙ n) rest (i == j) refl

  module _ (n : ℕ) (apart : (i k : ℕ) → i < n → k < n → at i ≡ at k → i ≡ k) where
    ref_there : (i : ℕ) → i < n → (d : Datum) → IsWithin n d → is_object (at i) (back at d) ≡ true → is_ref i d ≡ true
    ref_there i l (BoolDatum b) w h = clash false h refl
    ref_there i l (Int z) w h = clash false h refl
    ref_there i l (Str t) w h = clash false h refl
    ref_there i l (Literal z) w h = clash false h refl
    ref_there i l (Ref k) w h = (Decides-eqb i k).1 (sym (apart k i w l ((Decides-eqb (at k) (at i)).0 h)))

    pub refers : (ds : List Datum) (i : ℕ) → i < n → AllByRecursion (IsWithin n) ds → has (map (back at) ds) (at i) ≡ true → list_any (is_ref i) ds ≡ true
    refers [] i l w h = clash false h refl
    refers (d ∷ ds) i l w h = elim (or_cases (is_object (at i) (back at d)) (has (map (back at) ds) (at i)) h) [
      | inl a ↦ or_left (is_ref i d) (list_any (is_ref i) ds) (ref_there i l d w.0 a)
      | inr a ↦ or_right (is_ref i d) (list_any (is_ref i) ds) (refers ds i l w.1 a)
    ]

-- ---- the items that stand for values

module _ (xs : List ℕ) where
  abbrev pub object_at : ℕ → ℕ
  object_at i = slice_index_or xs i 0

  stands : (v : Value) (d : Datum) → datum_in xs v ≡ Some d → (back object_at d ≡ v) × IsWithin (length xs) d
  stands (BoolValue b) d e = subst (λ d. (back object_at d ≡ BoolValue b) × IsWithin (length xs) d) (some-injective (BoolDatum b) d e) (refl, tt)
  stands (IntValue z) d e = subst (λ d. (back object_at d ≡ IntValue z) × IsWithin (length xs) d) (some-injective (Int z) d e) (refl, tt)
  stands (StrValue t) d e = subst (λ d. (back object_at d ≡ StrValue t) × IsWithin (length xs) d) (some-injective (Str t) d e) (refl, tt)
  stands (EnumValue l) d e = subst (λ d. (back object_at d ≡ EnumValue l) × IsWithin (length xs) d) (some-injective (Literal l) d e) (refl, tt)
  stands (Obj o) d e = by (place_within xs o.0) refl e
    where
      by : (p : Option ℕ) → place_within xs o.0 ≡ p → option_map Ref p ≡ Some d → (back object_at d ≡ Obj o) × IsWithin (length xs) d
      by None is e = absurd (cc)
      by (Some i) is e =
          let found = position-Some (λ x. o.0 == x) xs i 0 is in
          let same : o.0 ≡ object_at i = (Decides-eqb o.0 (object_at i)).0 found.1 in
          subst (λ d. (back object_at d ≡ Obj o) × IsWithin (length xs) d) (some-injective (Ref i) d e) (ap (λ k. Obj (record { 0 = k })) (sym same), found.0)
  stands _ d e = absurd (cc)

  pub all_stand : (vs : List Value) → AllByRecursion (λ v. (d : Datum) × (datum_in xs v ≡ Some d)) vs →
      (map (back object_at) (filter_map (datum_in xs) vs) ≡ vs) × AllByRecursion (IsWithin (length xs)) (filter_map (datum_in xs) vs)
  all_stand [] h = (refl, tt)
  all_stand (v ∷ vs) h =
      let here = stands v h.0.0 h.0.1 in
      let rest = all_stand vs h.1 in
      subst (λ o. (map (back object_at) (cons_option o (filter_map (datum_in xs) vs)) ≡ v ∷ vs) × AllByRecursion (IsWithin (length xs)) (cons_option o (filter_map (datum_in xs) vs))) (sym h.0.1)
      ((λ i. here.0 i ∷ rest.0 i), (here.1, rest.1))
