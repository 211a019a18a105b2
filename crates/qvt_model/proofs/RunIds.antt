-- The ids in the data of a writable extent are those of the run, and an object keeps its id.
use Rattle.std.proofs.Common.{◌≡◌, ℕ, zero, suc, ◌+◌, ◌<◌, ◌≤◌, Bool, true, false, ◌==◌, not, cond, refl, sym, ap, ◌∙◌, subst, List, [], ◌∷◌, length, length-append, get_or, arith}
use Rattle.std.specs.Prelude.{Some, None, nat_lt, slice_index_or}
use Rattle.std.specs.List.{AllByRecursion, position_or_len}
use Rattle.std.proofs.lemmas.Bool.{eq-eqb, ne_eqb, lt-ltb, ltb-true}
use Rattle.qvt_base.specs.declared.numbers.Oid.{Oid}
use Rattle.qvt_slots.proofs.Lists.{length-map}
use Rattle.qvt_store.specs.Contents.{Instance, no_instance, no_extent, extent_at, extent_of, is_writable, members_from, members_of}
use Rattle.qvt_store.specs.Stay.{IsBeginningOf}
use Rattle.qvt_store_laws.proofs.Stays.{get-left}
use Rattle.qvt_model.specs.Extents.{own_id, numbers, place_within, data_of}
use Rattle.qvt_model.specs.IdTables.{id_in}
use Rattle.qvt_model.specs.RunIds.{place_id, file_id, DataHaveRunIds, RunIdsStay}
use Rattle.qvt_model.proofs.Extents.{IsMember, members-are}
use Rattle.qvt_model.proofs.Writing.{id-there}

abbrev oid : ℕ → Oid
oid x = record { 0 = x }

abbrev pub none : Oid
none = oid 0

low : (e n : ℕ) (rest : List Instance) (i : ℕ) → i < length (members_from n rest e) → n ≤ (get_or (members_from n rest e) i none).0
low e n [] i h = absurd (omega arith)
low e n (o ∷ rest) i h = by (o.extent == e) i h (low e (suc n) rest)
  where
    later : List Oid
    later = members_from (suc n) rest e

    by : (b : Bool) (i : ℕ) → i < length (cond b (oid n ∷ later) later) → ((j : ℕ) → j < length later → suc n ≤ (get_or later j none).0) → n ≤ (get_or (cond b (oid n ∷ later) later) i none).0
    by true zero h more = omega arith
    by true (suc i) h more = let r : suc n ≤ (get_or later i none).0 = more i (omega arith) in omega arith
    by false i h more = let r : suc n ≤ (get_or later i none).0 = more i h in omega arith

-- members come in order, so each is found at its place
place_is : (e n : ℕ) (rest : List Instance) (i : ℕ) → i < length (members_from n rest e) → position_or_len (λ x. (get_or (members_from n rest e) i none).0 == x) (numbers (members_from n rest e)) ≡ i
place_is e n [] i h = absurd (omega arith)
place_is e n (o ∷ rest) i h = by (o.extent == e) i h (place_is e (suc n) rest)
  where
    later : List Oid
    later = members_from (suc n) rest e

    by : (b : Bool) (i : ℕ) → i < length (cond b (oid n ∷ later) later) → ((j : ℕ) → j < length later → position_or_len (λ x. (get_or later j none).0 == x) (numbers later) ≡ j) →
        position_or_len (λ x. (get_or (cond b (oid n ∷ later) later) i none).0 == x) (numbers (cond b (oid n ∷ later) later)) ≡ i
    by true zero h more = ap (λ b. cond (not b) (1 + position_or_len (λ x. n == x) (numbers later)) 0) (eq-eqb n n refl)
    by true (suc i) h more =
        let r : suc n ≤ (get_or later i none).0 = low e (suc n) rest i (omega arith) in
        let at : position_or_len (λ x. (get_or later i none).0 == x) (numbers later) ≡ i = more i (omega arith) in
        ap (λ b. cond (not b) (1 + position_or_len (λ x. (get_or later i none).0 == x) (numbers later)) 0) (ne_eqb (get_or later i none).0 n (λ q. let same : (get_or later i none).0 ≡ n = q in omega arith))
        ∙ ap (λ k. 1 + k) at ∙ (let one : 1 + i ≡ suc i = omega arith in one)
    by false i h more = more i h

pub found : (e : ℕ) (obs : List Instance) (i : ℕ) → i < length (members_from 0 obs e) → place_within (numbers (members_from 0 obs e)) (get_or (members_from 0 obs e) i none).0 ≡ Some i
found e obs i h =
    ap (λ k. cond (nat_lt k (length (numbers (members_from 0 obs e)))) (Some k) None) (place_is e 0 obs i h)
    ∙ ap (λ b. cond b (Some i) None) (lt-ltb i (length (numbers (members_from 0 obs e))) (subst (λ k. i < k) (sym (length-map (λ (o : Oid). o.0) (members_from 0 obs e))) h))

at_place : (P : ℕ → Type 0) (os : List Oid) (i : ℕ) → AllByRecursion P (numbers os) → i < length os → P (get_or os i none).0
at_place P [] i all h = absurd (omega arith)
at_place P (o ∷ os) zero all h = all.0
at_place P (o ∷ os) (suc i) all h = at_place P os i all.1 (omega arith)

pub data_have_run_ids : DataHaveRunIds
unfolding data_of
data_have_run_ids s ids e i h writable =
    let xs : List ℕ = numbers (members_of s e) in
    let x : ℕ = (slice_index_or (members_of s e) i none).0 in
    let member : IsMember s e x = at_place (IsMember s e) (members_of s e) i (members-are s e 0 s.objects (λ i. ap (λ j. slice_index_or s.objects j no_instance) (omega arith)) (omega arith)) h in
    id-there s xs 1 xs i (subst (λ k. i < k) (sym (length-map (λ (o : Oid). o.0) (members_of s e))) h)
    ∙ ap own_id (let q : 1 + i ≡ suc i = omega arith in q)
    ∙ sym (ap (λ b. cond b (place_id (place_within (numbers (members_of s (extent_of s x))) x)) (file_id (id_in ids x))) (ap (λ k. (extent_at s k).writable) member.1 ∙ writable)
    ∙ ap (λ k. place_id (place_within (numbers (members_of s k)) x)) member.1 ∙ ap place_id (found e s.objects i h))

-- where object x stands among these
record MemberAt (ms : List Oid) (x : ℕ) : Type 0 where
  place : ℕ
  within : place < length ms
  here : (get_or ms place none).0 ≡ x

member_at : (e n : ℕ) (obs : List Instance) (x y : ℕ) → n + x ≡ y → x < length obs → (get_or obs x no_instance).extent ≡ e → MemberAt (members_from n obs e) y
member_at e n [] x y q h is = absurd (omega arith)
member_at e n (o ∷ rest) zero y q h is = subst (λ b. MemberAt (cond b (oid n ∷ members_from (suc n) rest e) (members_from (suc n) rest e)) y) (sym (eq-eqb o.extent e is))
    (record { place = 0; within = omega arith; here = omega arith })
member_at e n (o ∷ rest) (suc x) y q h is = by (o.extent == e) (member_at e (suc n) rest x y (omega arith) (omega arith) is)
  where
    later : List Oid
    later = members_from (suc n) rest e

    by : (b : Bool) → MemberAt later y → MemberAt (cond b (oid n ∷ later) later) y
    by true m = record { place = suc m.place; within = (let w : m.place < length later = m.within in omega arith); here = m.here }
    by false m = m

pub run_ids_stay : RunIdsStay
run_ids_stay s s' old new x stays live told =
    ap (λ b. cond b (place_id (place_within (numbers (members_of s' (extent_of s' x))) x)) (file_id (id_in new x))) writable
    ∙ (λ i. cond (is_writable s x) (place_id (places i)) (file_id (told i)))
  where
    e : ℕ
    e = extent_of s x

    same_extent : extent_of s' x ≡ e
    same_extent = stays.extent x live

    writable : is_writable s' x ≡ is_writable s x
    writable = λ i. (slice_index_or (stays.extents i) (same_extent i) no_extent).writable

    at : MemberAt (members_of s e) x
    at = member_at e 0 s.objects x x (omega arith) (ltb-true x (length s.objects) live) refl

    front : IsBeginningOf (members_of s e) (members_of s' e)
    front = stays.members e

    within : at.place < length (members_of s' e)
    within = subst (λ (l : List Oid). at.place < length l) (sym front.more)
        (subst (λ n. at.place < n) (sym (length-append (members_of s e) front.rest)) (let w : at.place < length (members_of s e) = at.within in omega arith))

    here : (get_or (members_of s' e) at.place none).0 ≡ x
    here = ap (λ (l : List Oid). (get_or l at.place none).0) front.more ∙ ap (λ (o : Oid). o.0) (get-left (members_of s e) front.rest at.place none at.within) ∙ at.here

    before : place_within (numbers (members_of s e)) x ≡ Some at.place
    before = subst (λ y. place_within (numbers (members_of s e)) y ≡ Some at.place) at.here (found e s.objects at.place at.within)

    later : place_within (numbers (members_of s' e)) x ≡ Some at.place
    later = subst (λ y. place_within (numbers (members_of s' e)) y ≡ Some at.place) here (found e s'.objects at.place within)

    places : place_within (numbers (members_of s' (extent_of s' x))) x ≡ place_within (numbers (members_of s e)) x
    places = ap (λ k. place_within (numbers (members_of s' k)) x) same_extent ∙ later ∙ sym before
