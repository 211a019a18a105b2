-- What a store that grew or was changed says of the objects that were there before.
use Rattle.std.proofs.Common.{◌≡◌, ℕ, zero, suc, ◌+◌, ◌<◌, Bool, true, false, ◌==◌, cond, inl, inr, refl, sym, ap, ◌∙◌, subst, List, [], ◌∷◌, ◌++◌, map, length, get_or, arith, append_assoc, append-nil, length-append}
use Rattle.std.specs.Prelude.{nat_lt, slice_set}
use Rattle.std.proofs.lemmas.Bool.{cases_eq, lt-ltb, ltb-true}
use Rattle.std.proofs.lemmas.List.{get_or-set_same, get_or-set_other, length-set}
use Rattle.qvt_base.specs.declared.numbers.Oid.{Oid}
use Rattle.qvt_value.specs.declared.value.Value.{Value}
use Rattle.qvt_metamodel.specs.Metamodels.{features_of, has_feature}
use Rattle.qvt_slots.specs.declared.op.SetOp.TheVariants.{Put, Add}
use Rattle.qvt_slots.specs.Contents.{Contents, Instance, no_instance, object_at, class_of, extent_of, is_live, members_from, members_of, set_slot, slot_of, with_slot}
use Rattle.qvt_slots.specs.Change.{Change}
use Rattle.qvt_slots.specs.Assign.{instances_after, store_after, change_of, refusal_of}
use Rattle.qvt_store_laws.specs.Stay.{IsBeginningOf, StaysIn, StaysIsReflexive, StaysIsTransitive, AddStays, AssignStays, AppendStays, WriteStays}
use Rattle.qvt_slots.proofs.Typed.{all_kept}
use Rattle.qvt_slots.proofs.Members.{members_same}
use Rattle.qvt_store_laws.proofs.After.{length-after, instance-after}
use Rattle.qvt_store_laws.proofs.SoundKept.{accepted}

abbrev oid : ℕ → Oid
oid x = record { 0 = x }

pub get-left : {X : Type 0} (xs ys : List X) (i : ℕ) (d : X) → i < length xs → get_or (xs ++ ys) i d ≡ get_or xs i d
get-left [] ys i d h = absurd (omega arith)
get-left (x ∷ xs) ys zero d h = refl
get-left (x ∷ xs) ys (suc i) d h = get-left xs ys i d (omega arith)

pub members-append : (x : ℕ) (xs ys : List Instance) (e : ℕ) → members_from x (xs ++ ys) e ≡ members_from x xs e ++ members_from (x + length xs) ys e
members-append x [] ys e = ap (λ n. members_from n ys e) (let q : x ≡ x + 0 = omega arith in q)
members-append x (o ∷ xs) ys e = go (o.extent == e) (members-append (suc x) xs ys e ∙ ap (λ n. members_from (suc x) xs e ++ members_from n ys e) (let q : suc x + length xs ≡ x + suc (length xs) = omega arith in q))
  where
    go : (b : Bool) → members_from (suc x) (xs ++ ys) e ≡ members_from (suc x) xs e ++ members_from (x + suc (length xs)) ys e →
        cond b (oid x ∷ members_from (suc x) (xs ++ ys) e) (members_from (suc x) (xs ++ ys) e) ≡ cond b (oid x ∷ members_from (suc x) xs e) (members_from (suc x) xs e) ++ members_from (x + suc (length xs)) ys e
    go true rest = ap (λ l. oid x ∷ l) rest
    go false rest = rest

pub same_front : (xs ys : List Oid) → ys ≡ xs → IsBeginningOf xs ys
same_front xs ys e = record { rest = []; more = e ∙ sym (append-nil xs) }

module _ (s s' : Contents) (metas : s'.metas ≡ s.metas) (extents : s'.extents ≡ s.extents) (live : (x : ℕ) → is_live s x ≡ true → is_live s' x ≡ true)
    (class : (x : ℕ) → is_live s x ≡ true → class_of s' x ≡ class_of s x) (extent : (x : ℕ) → is_live s x ≡ true → extent_of s' x ≡ extent_of s x)
    (members : (e : ℕ) → IsBeginningOf (members_of s e) (members_of s' e)) where
  pub stays_of : StaysIn s s'
  stays_of = record {
    metas = metas;
    extents = extents;
    live = live;
    class = class;
    extent = extent;
    members = members;
    assignable = λ o p vs can. record {
      live = live o can.live;
      feature = subst (λ m. has_feature m (class_of s' o) p ≡ true) (sym metas) (subst (λ n. has_feature s.metas n p ≡ true) (sym (class o can.live)) can.feature);
      types = all_kept s s' (sym metas) (λ y l. (live y l, sym (class y l))) p vs can.types;
    };
  }

-- as many objects, each of its class and in its extent
module _ (s : Contents) (obs : List Instance) (count : length obs ≡ length s.objects)
    (class : (x : ℕ) (d : Instance) → x < length s.objects → (get_or obs x d).class ≡ (get_or s.objects x d).class)
    (extent : (x : ℕ) (d : Instance) → x < length s.objects → (get_or obs x d).extent ≡ (get_or s.objects x d).extent) where
  pub stays_same : StaysIn s (record s { objects = obs })
  stays_same = stays_of s (record s { objects = obs }) refl refl (λ x l. ap (λ n. nat_lt x n) count ∙ l)
      (λ x l. class x no_instance (ltb-true x (length s.objects) l)) (λ x l. extent x no_instance (ltb-true x (length s.objects) l))
      (λ e. same_front (members_of s e) (members_from 0 obs e) (members_same obs s.objects 0 e count (λ k d h. extent k d (subst (λ n. k < n) count h))))

-- with more objects
pub stays_more : (s : Contents) (obs : List Instance) → StaysIn s (record s { objects = s.objects ++ obs })
stays_more s obs = stays_of s (record s { objects = s.objects ++ obs }) refl refl
    (λ x l. let h : x < length s.objects = ltb-true x (length s.objects) l in lt-ltb x (length (s.objects ++ obs)) (subst (λ n. x < n) (sym (length-append s.objects obs)) (omega arith)))
    (λ x l. ap (λ (i : Instance). i.class) (get-left s.objects obs x no_instance (ltb-true x (length s.objects) l)))
    (λ x l. ap (λ (i : Instance). i.extent) (get-left s.objects obs x no_instance (ltb-true x (length s.objects) l)))
    (λ e. record { rest = members_from (0 + length s.objects) obs e; more = members-append 0 s.objects obs e })

pub stays_is_reflexive : StaysIsReflexive
stays_is_reflexive s = stays_same s s.objects refl (λ x d h. refl) (λ x d h. refl)

pub stays_is_transitive : StaysIsTransitive
stays_is_transitive s s' s'' a b = stays_of s s'' (b.metas ∙ a.metas) (b.extents ∙ a.extents)
    (λ x l. b.live x (a.live x l)) (λ x l. b.class x (a.live x l) ∙ a.class x l) (λ x l. b.extent x (a.live x l) ∙ a.extent x l)
    (λ e. let first : IsBeginningOf (members_of s e) (members_of s' e) = a.members e in let second : IsBeginningOf (members_of s' e) (members_of s'' e) = b.members e in
    record { rest = first.rest ++ second.rest; more = second.more ∙ ap (λ l. l ++ second.rest) first.more ∙ append_assoc (members_of s e) first.rest second.rest })

pub add_stays : AddStays
add_stays s c e = stays_more s (record { class = c; extent = e; slots = map (λ _. []) (features_of s.metas c) } ∷ [])

pub stays_after : (s : Contents) (c : Change) → StaysIn s (store_after s c)
stays_after s c = stays_same s (instances_after c 0 s.objects) (length-after c 0 s.objects)
    (λ x d h. ap (λ (i : Instance). i.class) (instance-after c s.objects 0 x x d (omega arith) h))
    (λ x d h. ap (λ (i : Instance). i.extent) (instance-after c s.objects 0 x x d (omega arith) h))

pub assign_stays : AssignStays
assign_stays s s' o p vs e = subst (StaysIn s) (accepted (refusal_of s (change_of s o p vs)) (store_after s (change_of s o p vs)) s' e).1 (stays_after s (change_of s o p vs))

pub write_stays : WriteStays
write_stays s s' o p Put vs e = assign_stays s s' o p vs e
write_stays s s' o p Add vs e = assign_stays s s' o p (slot_of s o p ++ vs) e

pub append_stays : AppendStays
append_stays s s' o p v e = write_stays s s' o p Add (v ∷ []) e

pub place_stays : (s : Contents) (o p : ℕ) (vs : List Value) → StaysIn s (with_slot s o p vs)
place_stays s o p vs = stays_same s (slice_set s.objects o changed) (length-set s.objects o changed)
    (λ x d h. kept (λ i. i.class) refl x d h) (λ x d h. kept (λ i. i.extent) refl x d h)
  where
    changed : Instance
    changed = set_slot (features_of s.metas (class_of s o)) (object_at s o) p vs

    kept : (field : Instance → ℕ) → field changed ≡ field (object_at s o) → (x : ℕ) (d : Instance) → x < length s.objects → field (get_or (slice_set s.objects o changed) x d) ≡ field (get_or s.objects x d)
    kept field same x d h = elim (cases_eq x o) [
      | inl e ↦ subst (λ n. field (get_or (slice_set s.objects o changed) n d) ≡ field (get_or s.objects n d)) (sym e)
          (ap field (get_or-set_same s.objects o changed d (subst (λ n. n < length s.objects) e h)) ∙ same ∙ ap field (any s.objects o (subst (λ n. n < length s.objects) e h)))
      | inr n ↦ ap field (get_or-set_other s.objects o x changed d n)
    ]
      where
        any : (xs : List Instance) (i : ℕ) → i < length xs → get_or xs i no_instance ≡ get_or xs i d
        any [] i h = absurd (omega arith)
        any (y ∷ xs) zero h = refl
        any (y ∷ xs) (suc i) h = any xs i (omega arith)
