-- The walk over the objects finds where each stands in its extent.
use Rattle.std.proofs.Common.{◌≡◌, ◌∙◌, ℕ, zero, suc, ◌+◌, ◌<◌, ◌≤◌, ◌==◌, nat_lt, Bool, true, false, not, cond, refl, sym, ap, subst, List, [], ◌∷◌, length, ◌++◌, map, get_or, set, drop, append_assoc, arith}
use Rattle.std.specs.Prelude.{Some, None, slice_get, slice_index_or}
use Rattle.std.specs.List.{position_or_len}
use Rattle.std.proofs.lemmas.Bool.{eq-eqb, ne_eqb, eqb-true, le-ltb, lt-ltb, ltb-false, ltb-true}
use Rattle.std.proofs.lemmas.List.{at_drop_more, length-set, get_or-set_same, get_or-set_other}
use Rattle.qvt_base.specs.declared.numbers.Oid.{Oid}
use Rattle.qvt_slots.proofs.Lists.{length-map}
use Rattle.qvt_slots.specs.declared.extent.Extent.{Extent}
use Rattle.qvt_store.specs.Contents.{Contents, Instance, no_instance, no_extent, extent_of, is_writable, members_from, members_of}
use Rattle.qvt_model.specs.Extents.{numbers, place_within}
use Rattle.qvt_model.proofs.RunIds.{found}
use Rattle.qvt_run_ids.specs.Places.{count_at, raised, places_from, no_counts, places_of}

abbrev oid : ℕ → Oid
oid x = record { 0 = x }

-- ---- counts

length_raised : (counts : List ℕ) (k : ℕ) → length (raised counts k) ≡ length counts
length_raised counts k = by (nat_lt k (length counts))
  where
    by : (b : Bool) → length (cond b (set counts k (count_at counts k + 1)) counts) ≡ length counts
    by true = length-set counts k (count_at counts k + 1)
    by false = refl

raised_here : (counts : List ℕ) (e k : ℕ) → k ≡ e → e < length counts → count_at (raised counts k) e ≡ count_at counts e + 1
raised_here counts e k same within =
    ap (λ j. count_at (raised counts j) e) same
    ∙ ap (λ b. count_at (cond b (set counts e (count_at counts e + 1)) counts) e) (lt-ltb e (length counts) within)
    ∙ get_or-set_same counts e (count_at counts e + 1) 0 within

raised_other : (counts : List ℕ) (e k : ℕ) → (e ≡ k → ⊥) → count_at (raised counts k) e ≡ count_at counts e
raised_other counts e k other = by (nat_lt k (length counts))
  where
    by : (b : Bool) → count_at (cond b (set counts k (count_at counts k + 1)) counts) e ≡ count_at counts e
    by true = get_or-set_other counts k e (count_at counts k + 1) 0 other
    by false = refl

length_places : (counts : List ℕ) (objects : List Instance) → length (places_from counts objects) ≡ length objects
length_places counts [] = refl
length_places counts (o ∷ os) = ap suc (length_places (raised counts o.extent) os)

-- the next object is counted
pub next_counted : (counts : List ℕ) (objects : List Instance) (places : List ℕ) (n e p : ℕ) → n < length objects → e ≡ (get_or objects n no_instance).extent → p ≡ count_at counts e
    → (places ++ p ∷ []) ++ places_from (raised counts e) (drop (n + 1) objects) ≡ places ++ places_from counts (drop n objects)
next_counted counts objects places n e p within of_it place =
    append_assoc places (p ∷ []) (places_from (raised counts e) (drop (n + 1) objects))
    ∙ ap (λ ps. places ++ ps)
    ((λ i. (place ∙ ap (count_at counts) of_it) i ∷ places_from (raised counts (of_it i)) (drop (n + 1) objects))
    ∙ sym (at_drop_more (places_from counts) objects n no_instance within))

true_is_not : true ≡ false → ⊥
true_is_not h = cc

-- ---- where an object stands

-- object y, of extent e, among those numbered from n on
record Stands (e : ℕ) (counts : List ℕ) (n : ℕ) (objects : List Instance) (x y : ℕ) : Type 0 where
  place : ℕ
  within : place < length (members_from n objects e)
  here : (get_or (members_from n objects e) place (oid 0)).0 ≡ y
  told : get_or (places_from counts objects) x 0 ≡ count_at counts e + place

stands : (e : ℕ) (counts : List ℕ) (n : ℕ) (objects : List Instance) (x y : ℕ) → n + x ≡ y → x < length objects → (get_or objects x no_instance).extent ≡ e → e < length counts → Stands e counts n objects x y
stands e counts n [] x y q h is within = absurd (omega arith)
stands e counts n (o ∷ os) zero y q h is within = record {
  place = 0;
  within = subst (λ b. 0 < length (cond b (oid n ∷ members_from (suc n) os e) (members_from (suc n) os e))) (sym (eq-eqb o.extent e is)) (omega arith);
  here = ap (λ b. (get_or (cond b (oid n ∷ members_from (suc n) os e) (members_from (suc n) os e)) 0 (oid 0)).0) (eq-eqb o.extent e is) ∙ (let same : n ≡ y = omega arith in same);
  told = ap (count_at counts) is ∙ (let none : count_at counts e ≡ count_at counts e + 0 = omega arith in none);
}
stands e counts n (o ∷ os) (suc x) y q h is within =
    by (o.extent == e) refl (stands e (raised counts o.extent) (suc n) os x y (omega arith) (omega arith) is (subst (λ k. e < k) (sym (length_raised counts o.extent)) within))
  where
    later : List Oid
    later = members_from (suc n) os e

    by : (b : Bool) → (o.extent == e) ≡ b → Stands e (raised counts o.extent) (suc n) os x y → Stands e counts n (o ∷ os) (suc x) y
    by true same s = record {
      place = suc s.place;
      within = subst (λ c. suc s.place < length (cond c (oid n ∷ later) later)) (sym same) (let w : s.place < length later = s.within in omega arith);
      here = ap (λ c. (get_or (cond c (oid n ∷ later) later) (suc s.place) (oid 0)).0) same ∙ s.here;
      told = s.told ∙ ap (λ k. k + s.place) (raised_here counts e o.extent (eqb-true o.extent e same) within) ∙ (let more : count_at counts e + 1 + s.place ≡ count_at counts e + suc s.place = omega arith in more);
    }
    by false other s = record {
      place = s.place;
      within = subst (λ c. s.place < length (cond c (oid n ∷ later) later)) (sym other) s.within;
      here = ap (λ c. (get_or (cond c (oid n ∷ later) later) s.place (oid 0)).0) other ∙ s.here;
      told = s.told ∙ ap (λ k. k + s.place) (raised_other counts e o.extent differ);
    }
      where
        differ : e ≡ o.extent → ⊥
        differ same = true_is_not (sym (eq-eqb o.extent e (sym same)) ∙ other)

-- ---- an object that is not there stands nowhere

nowhere_from : (e n : ℕ) (objects : List Instance) (x : ℕ) → n + length objects ≤ x → position_or_len (λ y. x == y) (numbers (members_from n objects e)) ≡ length (numbers (members_from n objects e))
nowhere_from e n [] x h = refl
nowhere_from e n (o ∷ os) x h = by (o.extent == e) (nowhere_from e (suc n) os x (omega arith))
  where
    later : List Oid
    later = members_from (suc n) os e

    by : (b : Bool) → position_or_len (λ y. x == y) (numbers later) ≡ length (numbers later)
        → position_or_len (λ y. x == y) (numbers (cond b (oid n ∷ later) later)) ≡ length (numbers (cond b (oid n ∷ later) later))
    by true more = ap (λ b. cond (not b) (1 + position_or_len (λ y. x == y) (numbers later)) 0) (ne_eqb x n (λ same. let k : x ≡ n = same in omega (arith, k))) ∙ ap (λ k. 1 + k) more
        ∙ (let next : 1 + length (numbers later) ≡ suc (length (numbers later)) = omega arith in next)
    by false more = more

nowhere : (s : Contents) (e x : ℕ) → length s.objects ≤ x → place_within (numbers (members_of s e)) x ≡ None
nowhere s e x h =
    let all : List ℕ = numbers (members_of s e) in
    ap (λ k. cond (nat_lt k (length all)) (Some k) None) (nowhere_from e 0 s.objects x (omega arith))
    ∙ ap (λ b. cond b (Some (length all)) None) (le-ltb (length all) (length all) (omega arith))

-- ---- both

got : (xs : List ℕ) (x : ℕ) → x < length xs → slice_get xs x ≡ Some (get_or xs x 0)
got [] x h = absurd (omega arith)
got (k ∷ ks) zero h = refl
got (k ∷ ks) (suc x) h = got ks x (omega arith)

past : (xs : List ℕ) (x : ℕ) → length xs ≤ x → slice_get xs x ≡ None
past [] x h = refl
past (k ∷ ks) zero h = absurd (omega arith)
past (k ∷ ks) (suc x) h = past ks x (omega arith)

-- a writable extent is there
is_there : (extents : List Extent) (e : ℕ) → (slice_index_or extents e no_extent).writable ≡ true → e < length extents
is_there [] e h = absurd (cc)
is_there (x ∷ xs) zero h = omega arith
is_there (x ∷ xs) (suc e) h = let ih : e < length xs = is_there xs e h in omega arith

none_counted : (extents : List Extent) (e : ℕ) → count_at (map (λ _. 0) extents) e ≡ 0
none_counted [] e = refl
none_counted (x ∷ xs) zero = refl
none_counted (x ∷ xs) (suc e) = none_counted xs e

placed : (s : Contents) (x : ℕ) → is_writable s x ≡ true → x < length s.objects → slice_get (places_of s) x ≡ place_within (numbers (members_of s (extent_of s x))) x
unfolding places_of
placed s x writable live =
    let e : ℕ = extent_of s x in
    let within : e < length (no_counts s) = subst (λ k. e < k) (sym (length-map (λ (_ : Extent). 0) s.extents)) (is_there s.extents e writable) in
    let at : Stands e (no_counts s) 0 s.objects x x = stands e (no_counts s) 0 s.objects x x (omega arith) live refl within in
    let place : get_or (places_from (no_counts s) s.objects) x 0 ≡ at.place = at.told ∙ ap (λ k. k + at.place) (none_counted s.extents e) ∙ (let none : 0 + at.place ≡ at.place = omega arith in none) in
    got (places_from (no_counts s) s.objects) x (subst (λ k. x < k) (sym (length_places (no_counts s) s.objects)) live)
    ∙ ap Some place
    ∙ sym (subst (λ y. place_within (numbers (members_of s e)) y ≡ Some at.place) at.here (found e s.objects at.place at.within))

pub place_found : (s : Contents) (x : ℕ) → is_writable s x ≡ true → slice_get (places_of s) x ≡ place_within (numbers (members_of s (extent_of s x))) x
unfolding places_of
place_found s x writable = by (nat_lt x (length s.objects)) refl
  where
    by : (b : Bool) → nat_lt x (length s.objects) ≡ b → slice_get (places_of s) x ≡ place_within (numbers (members_of s (extent_of s x))) x
    by true live = placed s x writable (ltb-true x (length s.objects) live)
    by false gone =
        let beyond : length s.objects ≤ x = ltb-false x (length s.objects) gone in
        past (places_from (no_counts s) s.objects) x (subst (λ k. k ≤ x) (sym (length_places (no_counts s) s.objects)) beyond)
        ∙ sym (nowhere s (extent_of s x) x beyond)
