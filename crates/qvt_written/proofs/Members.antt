-- The objects of an extent, each at its place in the data.
use Rattle.std.proofs.Common.{◌≡◌, ℕ, zero, suc, ◌+◌, ◌<◌, Bool, true, false, ◌==◌, cond, refl, sym, ap, ◌∙◌, subst, List, [], ◌∷◌, length, get_or, eq-eqb, ltb-true, arith}
use Rattle.std.specs.Prelude.{Some, slice_index_or}
use Rattle.qvt_base.specs.declared.numbers.Oid.{Oid}
use Rattle.qvt_slots.proofs.Lists.{length-map}
use Rattle.qvt_store.specs.Contents.{Contents, Instance, no_instance, extent_of, is_live, members_from, members_of}
use Rattle.qvt_model.specs.Extents.{numbers, place_within, object_data_of, objects_from}
use Rattle.qvt_model.specs.WellFormed.{object_data_at}
use Rattle.qvt_model.proofs.Extents.{IsMember, members-are}
use Rattle.qvt_model.proofs.Lists.{All-index, index-map}
use Rattle.qvt_model.proofs.RunIds.{found, none}
use Rattle.qvt_json.proofs.Ordered.{some-injective}

abbrev oid : ℕ → Oid
oid x = record { 0 = x }

-- where object x stands among these
record MemberAt (ms : List Oid) (x : ℕ) : Type 0 where
  place : ℕ
  within : place < length ms
  here : (get_or ms place none).0 ≡ x

member_at : (e n : ℕ) (obs : List Instance) (x y : ℕ) → n + x ≡ y → x < length obs → (get_or obs x no_instance).extent ≡ e → MemberAt (members_from n obs e) y
member_at e n [] x y q h is = absurd (omega arith)
member_at e n (o ∷ rest) zero y q h is = subst (λ b. MemberAt (cond b (oid n ∷ members_from (suc n) rest e) (members_from (suc n) rest e)) y) (sym (eq-eqb o.extent e is))
    (record { place = 0; within = omega arith; here = omega arith })
member_at e n (o ∷ rest) (suc x) y q h is = by (o.extent == e) (member_at e (suc n) rest x y (omega arith) (omega arith) is)
  where
    later : List Oid
    later = members_from (suc n) rest e

    by : (b : Bool) → MemberAt later y → MemberAt (cond b (oid n ∷ later) later) y
    by true m = record { place = suc m.place; within = (let w : m.place < length later = m.within in omega arith); here = m.here }
    by false m = m

module _ (s : Contents) (e : ℕ) where
  abbrev pub members : List ℕ
  members = numbers (members_of s e)

  abbrev pub object : ℕ → ℕ
  object i = slice_index_or members i 0

  pub count : length members ≡ length (members_of s e)
  count = length-map (λ (o : Oid). o.0) (members_of s e)

  pub number : (i : ℕ) → object i ≡ (get_or (members_of s e) i none).0
  number i = index-map (λ (o : Oid). o.0) (members_of s e) i none

  pub member : (i : ℕ) → i < length members → IsMember s e (object i)
  member i l = All-index (IsMember s e) members i 0 (members-are s e 0 s.objects (λ i. ap (λ j. slice_index_or s.objects j no_instance) (omega arith)) (omega arith)) l

  pub place : (i : ℕ) → i < length members → place_within members (object i) ≡ Some i
  place i l = subst (λ x. place_within members x ≡ Some i) (sym (number i)) (found e s.objects i (subst (λ k. i < k) count l))

  -- each stands at one place
  pub apart : (i k : ℕ) → i < length members → k < length members → object i ≡ object k → i ≡ k
  apart i k l l' same = some-injective i k (sym (place i l) ∙ ap (place_within members) same ∙ place k l')

  -- an object of the extent is among them
  pub placed : (x : ℕ) → is_live s x ≡ true → extent_of s x ≡ e → (i : ℕ) × (place_within members x ≡ Some i)
  placed x live is =
      let at : MemberAt (members_of s e) x = member_at e 0 s.objects x x (omega arith) (ltb-true x (length s.objects) live) is in
      (at.place, subst (λ y. place_within members y ≡ Some at.place) at.here (found e s.objects at.place at.within))

-- ---- their data

module _ (s : Contents) (xs : List ℕ) where
  pub count-objects : (n : ℕ) (ys : List ℕ) → length (objects_from s xs n ys) ≡ length ys
  count-objects n [] = refl
  count-objects n (y ∷ ys) = ap suc (count-objects (suc n) ys)

  pub object-there : (n : ℕ) (ys : List ℕ) (i : ℕ) → i < length ys → object_data_at (objects_from s xs n ys) i ≡ object_data_of s xs (n + i) (slice_index_or ys i 0)
  object-there n [] i l = absurd (omega arith)
  object-there n (y ∷ ys) zero l = ap (λ k. object_data_of s xs k y) (let q : n ≡ n + 0 = omega arith in q)
  object-there n (y ∷ ys) (suc i) l = object-there (suc n) ys i (omega arith) ∙ ap (λ k. object_data_of s xs k (slice_index_or ys i 0)) (let q : suc n + i ≡ n + suc i = omega arith in q)
