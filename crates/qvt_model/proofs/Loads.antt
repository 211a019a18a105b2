-- What a loading leaves: other extents, the ids that were told, and those of a run.
use Rattle.std.proofs.Common.{◌≡◌, ◌≢◌, ℕ, zero, suc, ◌+◌, ◌<◌, ◌≤◌, true, false, cond, inl, inr, refl, sym, ap, ◌∙◌, subst, List, [], ◌∷◌, ◌++◌, map, length, length-append, append-nil, get_or, arith}
use Rattle.std.specs.Prelude.{Option, Some, None, is_some}
use Rattle.std.specs.List.{AllByRecursion}
use Rattle.std.proofs.lemmas.Bool.{cases_lt, eq-eqb, ne_eqb, ltb-true, ltb-false, lt-ltb, le-ltb}
use Rattle.std.proofs.lemmas.List.{get_or-map}
use Rattle.qvt_base.specs.declared.numbers.Oid.{Oid}
use Rattle.qvt_metas.specs.Metamodels.{Metamodels}
use Rattle.qvt_store.specs.Contents.{Contents, Instance, no_instance, extent_at, extent_of, is_live, members_from, members_of}
use Rattle.qvt_store.specs.Limits.{most_objects}
use Rattle.qvt_slots.proofs.Lists.{length-map}
use Rattle.qvt_store_laws.proofs.Stays.{members-append, stays_more}
use Rattle.qvt_store_laws.proofs.ReadOnly.{more_leaves_inputs}
use Rattle.qvt_model.specs.declared.data.ObjectData.{ObjectData}
use Rattle.qvt_model.specs.IdTables.{id_in}
use Rattle.qvt_model.specs.WellFormed.{object_data_at, no_object}
use Rattle.qvt_model.specs.Extents.{own_id, numbers, place_within}
use Rattle.qvt_model.specs.RunIds.{place_id, file_id, run_id}
use Rattle.qvt_model.specs.Loaded.{instance_at, loaded, id_told, IsLoadable, TellsAll, TellsNoOther, AreTold, LoadLeaves, EachLoadLeaves, object_count, ElsewhereThan, LoadEach}
use Rattle.qvt_model.proofs.Final.{app_right}
use Rattle.qvt_model.proofs.RunIds.{none, found, run_ids_stay}
use Rattle.qvt_model.proofs.Told.{told_past}

abbrev oid : ℕ → Oid
oid x = record { 0 = x }

no_members : (m : Metamodels) (e n f : ℕ) → f ≢ e → (x : ℕ) (os : List ObjectData) → members_from x (map (instance_at m e n) os) f ≡ []
no_members m e n f d x [] = refl
no_members m e n f d x (o ∷ os) =
    ap (λ b. cond b (oid x ∷ members_from (suc x) (map (instance_at m e n) os) f) (members_from (suc x) (map (instance_at m e n) os) f)) (ne_eqb e f (λ q. d (sym q)))
    ∙ no_members m e n f d (suc x) os

told_within : (n : ℕ) (os : List ObjectData) (x : ℕ) (old : Option (List ℕ)) → n ≤ x → x < n + length os → is_some (id_told n os x old) ≡ true
told_within n [] x old low high = absurd (omega arith)
told_within n (o ∷ os) x old low high = elim (cases_lt x (suc n)) [
  | inl h ↦ ap (λ b. is_some (cond b (Some o.id) (id_told (suc n) os x old))) (eq-eqb x n (omega arith))
  | inr h ↦ ap (λ b. is_some (cond b (Some o.id) (id_told (suc n) os x old))) (ne_eqb x n (λ q. let e : x ≡ n = q in omega arith))
      ∙ told_within (suc n) os x old (omega arith) (omega arith)
]

told_at : (n : ℕ) (os : List ObjectData) (i x : ℕ) (old : Option (List ℕ)) → n + i ≡ x → i < length os → id_told n os x old ≡ Some (object_data_at os i).id
told_at n [] i x old q h = absurd (omega arith)
told_at n (o ∷ os) zero x old q h = ap (λ b. cond b (Some o.id) (id_told (suc n) os x old)) (eq-eqb x n (omega arith))
told_at n (o ∷ os) (suc i) x old q h = ap (λ b. cond b (Some o.id) (id_told (suc n) os x old)) (ne_eqb x n (λ p. let r : x ≡ n = p in omega arith)) ∙ told_at (suc n) os i x old (omega arith) (omega arith)

told_beyond : (n : ℕ) (os : List ObjectData) (x : ℕ) (old : Option (List ℕ)) → n + length os ≤ x → id_told n os x old ≡ old
told_beyond n [] x old h = refl
told_beyond n (o ∷ os) x old h = ap (λ b. cond b (Some o.id) (id_told (suc n) os x old)) (ne_eqb x n (λ p. let r : x ≡ n = p in omega arith)) ∙ told_beyond (suc n) os x old (omega arith)

record IsNth (ms : List Oid) (i y : ℕ) : Type 0 where
  within : i < length ms
  here : (get_or ms i none).0 ≡ y

-- the new members are those loaded, in order
nth : (m : Metamodels) (e n x : ℕ) (os : List ObjectData) (i y : ℕ) → x + i ≡ y → i < length os → IsNth (members_from x (map (instance_at m e n) os) e) i y
nth m e n x [] i y q h = absurd (omega arith)
nth m e n x (o ∷ os) zero y q h =
    subst (λ b. IsNth (cond b (oid x ∷ members_from (suc x) (map (instance_at m e n) os) e) (members_from (suc x) (map (instance_at m e n) os) e)) 0 y) (sym (eq-eqb e e refl))
    (record { within = omega arith; here = omega arith })
nth m e n x (o ∷ os) (suc i) y q h =
    let r : IsNth (members_from (suc x) (map (instance_at m e n) os) e) i y = nth m e n (suc x) os i y (omega arith) (omega arith) in
    subst (λ b. IsNth (cond b (oid x ∷ members_from (suc x) (map (instance_at m e n) os) e) (members_from (suc x) (map (instance_at m e n) os) e)) (suc i) y) (sym (eq-eqb e e refl))
    (record { within = (let w : i < length (members_from (suc x) (map (instance_at m e n) os) e) = r.within in omega arith); here = r.here })

module _ (s : Contents) (e : ℕ) (os : List ObjectData) where
  count : length (s.objects ++ map (instance_at s.metas e (length s.objects)) os) ≡ length s.objects + length os
  count = length-append s.objects (map (instance_at s.metas e (length s.objects)) os) ∙ ap (λ k. length s.objects + k) (length-map (instance_at s.metas e (length s.objects)) os)

  others : (f : ℕ) → f ≢ e → members_from 0 (s.objects ++ map (instance_at s.metas e (length s.objects)) os) f ≡ members_of s f
  others f d = members-append 0 s.objects (map (instance_at s.metas e (length s.objects)) os) f
      ∙ ap (λ l. members_of s f ++ l) (no_members s.metas e (length s.objects) f d (0 + length s.objects) os) ∙ append-nil (members_of s f)

  abbrev after : Contents
  after = record s { objects = s.objects ++ map (instance_at s.metas e (length s.objects)) os }

  extent_new : (i : ℕ) → i < length os → extent_of after (length s.objects + i) ≡ e
  extent_new i h = ap (λ (ob : Instance). ob.extent) (app_right s.objects (map (instance_at s.metas e (length s.objects)) os) i no_instance ∙ get_or-map (instance_at s.metas e (length s.objects)) os i no_object no_instance h)

  members_new : members_of s e ≡ [] → members_of after e ≡ members_from (0 + length s.objects) (map (instance_at s.metas e (length s.objects)) os) e
  members_new empty = members-append 0 s.objects (map (instance_at s.metas e (length s.objects)) os) e
      ∙ ap (λ l. l ++ members_from (0 + length s.objects) (map (instance_at s.metas e (length s.objects)) os) e) empty

  placed : members_of s e ≡ [] → (i : ℕ) → i < length os → place_within (numbers (members_of after e)) (length s.objects + i) ≡ Some i
  placed empty i h =
      let r : IsNth (members_of after e) i (length s.objects + i) =
      subst (λ (l : List Oid). IsNth l i (length s.objects + i)) (sym (members_new empty)) (nth s.metas e (length s.objects) (0 + length s.objects) os i (length s.objects + i) (omega arith) h) in
      subst (λ y. place_within (numbers (members_of after e)) y ≡ Some i) r.here (found e after.objects i r.within)

  module _ (old new : List (Option (List ℕ))) (told : AreTold s os old new) where
    ids : (x : ℕ) → is_live s x ≡ true → id_in new x ≡ id_in old x
    ids x live = told x ∙ told_past (length s.objects) os x (id_in old x) (ltb-true x (length s.objects) live)

    tells : TellsAll s old → (x : ℕ) → x < length s.objects + length os → is_some (id_in new x) ≡ true
    tells all x high = elim (cases_lt x (length s.objects)) [
      | inl low ↦ ap is_some (ids x (lt-ltb x (length s.objects) low)) ∙ all x (lt-ltb x (length s.objects) low)
      | inr past ↦ ap is_some (told x) ∙ told_within (length s.objects) os x (id_in old x) past high
    ]

    no_other : TellsNoOther s old → (x : ℕ) → length s.objects + length os ≤ x → id_in new x ≡ None
    no_other none_else x high = told x ∙ told_beyond (length s.objects) os x (id_in old x) high ∙ none_else x (le-ltb x (length s.objects) (omega arith))

    read : (extent_at s e).writable ≡ false → (i : ℕ) → i < length os → run_id after new (length s.objects + i) ≡ (object_data_at os i).id
    read locked i h =
        ap (λ b. cond b (place_id (place_within (numbers (members_of after (extent_of after (length s.objects + i)))) (length s.objects + i))) (file_id (id_in new (length s.objects + i))))
        (ap (λ k. (extent_at s k).writable) (extent_new i h) ∙ locked)
        ∙ ap file_id (told (length s.objects + i) ∙ told_at (length s.objects) os i (length s.objects + i) (id_in old (length s.objects + i)) refl h)

    written : (extent_at s e).writable ≡ true → members_of s e ≡ [] → (i : ℕ) → i < length os → run_id after new (length s.objects + i) ≡ own_id (suc i)
    written open' empty i h =
        ap (λ b. cond b (place_id (place_within (numbers (members_of after (extent_of after (length s.objects + i)))) (length s.objects + i))) (file_id (id_in new (length s.objects + i))))
        (ap (λ k. (extent_at s k).writable) (extent_new i h) ∙ open')
        ∙ ap (λ k. place_id (place_within (numbers (members_of after k)) (length s.objects + i))) (extent_new i h)
        ∙ ap place_id (placed empty i h)

    before : (x : ℕ) → is_live s x ≡ true → run_id after new x ≡ run_id s old x
    before x live = run_ids_stay s after old new x (stays_more s (map (instance_at s.metas e (length s.objects)) os)) live (ids x live)

pub load_leaves : EachLoadLeaves
unfolding loaded
load_leaves s e os = record {
  stays = stays_more s (map (instance_at s.metas e (length s.objects)) os);
  inputs = more_leaves_inputs s (map (instance_at s.metas e (length s.objects)) os);
  others = record { others = others s e os };
  count = count s e os;
  ids = ids s e os;
  tells = λ old new told all x live. tells s e os old new told all x (subst (λ k. x < k) (count s e os) (ltb-true x _ live));
  no_other = λ old new told none_else x dead. no_other s e os old new told none_else x (subst (λ k. k ≤ x) (count s e os) (ltb-false x _ dead));
  run_ids = λ old new told. record { read = read s e os old new told; written = written s e os old new told; before = before s e os old new told };
  next = λ f more d can room. record {
    extent = can.extent;
    empty = others s e os f d ∙ can.empty;
    model = can.model;
    room = subst (λ k. k + length more ≤ most_objects) (sym (count s e os)) room;
  };
}

pub load_each : LoadEach
load_each s [] h = tt
load_each s (l ∷ ls) h = (
  h.each.0,
  load_each (loaded s l.0 l.1) ls (record {
    each = still ls h.each.1 h.apart.0 (let r : length s.objects + (length l.1 + object_count ls) ≤ most_objects = h.room in omega arith);
    apart = h.apart.1;
    room = subst (λ k. k + object_count ls ≤ most_objects) (sym leaves.count) (let r : length s.objects + (length l.1 + object_count ls) ≤ most_objects = h.room in omega arith);
  }),
)
  where
    leaves : LoadLeaves s l.0 l.1
    leaves = load_leaves s l.0 l.1

    still : (rest : List (ℕ × List ObjectData)) → AllByRecursion (λ k. IsLoadable s k.0 k.1) rest → ElsewhereThan l.0 rest → length s.objects + length l.1 + object_count rest ≤ most_objects → AllByRecursion (λ k. IsLoadable (loaded s l.0 l.1) k.0 k.1) rest
    still [] all away room = tt
    still (k ∷ rest) all away room =
        let r : length s.objects + length l.1 + (length k.1 + object_count rest) ≤ most_objects = room in
        (leaves.next k.0 k.1 away.0 all.0 (omega arith), still rest all.1 away.1 (omega arith))
