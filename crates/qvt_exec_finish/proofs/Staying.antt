-- Writes leave the objects that are there, and their classes.
use Rattle.std.proofs.Common.{◌≡◌, ◌∙◌, ◌&&◌, ◌++◌, nat_lt, ℕ, Bool, true, false, List, [], ◌∷◌, map, filter, filter_map, length, Result, Ok, Err, refl, sym, ap, subst, arith}
use Rattle.std.proofs.lemmas.Bool.{ltb-true}
use Rattle.qvt_base.specs.declared.numbers.Oid.{Oid}
use Rattle.qvt_base.specs.declared.numbers.Place.{Place}
use Rattle.qvt_metamodel.specs.Descends.{descends}
use Rattle.qvt_slots.specs.declared.fault.StoreFault.{StoreFault}
use Rattle.qvt_slots.specs.declared.op.SetOp.{SetOp}
use Rattle.qvt_slots.specs.declared.op.SetOp.TheVariants.{Put, Add}
use Rattle.qvt_store.specs.Assign.{assign, change_of, refusal_of, store_after, write}
use Rattle.qvt_store.specs.Change.{Change}
use Rattle.qvt_store.specs.Contents.{Contents, Instance, class_of, is_live, no_instance, slot_of}
use Rattle.qvt_store_laws.proofs.After.{length-after, instance-after}
use Rattle.qvt_store_laws.proofs.SoundKept.{accepted}
use Rattle.qvt_value.specs.declared.value.Value.{Value, Obj}
use Rattle.qvt_run_data.specs.declared.exit.End.{End}
use Rattle.qvt_run_data.specs.declared.late.LateValue.{LateValue}
use Rattle.qvt_run_rules.specs.Trace.{candidates, distinct, far_end, is_object_of, matched_by}
use Rattle.qvt_meaning.specs.Run.{patched, patch_on, written}
use Rattle.qvt_exec_finish.specs.Stay.{CandidatesStay}

-- an object is of a class where it was
abbrev pub Same : Contents → Contents → Type 0
Same s t = (k : ℕ) (o : Oid) → is_object_of t k o ≡ is_object_of s k o

module _ (s : Contents) (c : Change) (k : ℕ) (o : Oid) where
  live_same : is_live (store_after s c) o.0 ≡ is_live s o.0
  live_same = ap (nat_lt o.0) (length-after c 0 s.objects)

  changed_by : (b : Bool) → is_live s o.0 ≡ b → is_object_of (store_after s c) k o ≡ is_object_of s k o
  changed_by true live =
      let kept : class_of (store_after s c) o.0 ≡ class_of s o.0 =
      ap (λ (i : Instance). i.class) (instance-after c s.objects 0 o.0 o.0 no_instance (omega arith) (ltb-true o.0 (length s.objects) live)) in
      λ i. live_same i && descends s.metas (kept i) k
  changed_by false dead =
      ap (λ b. b && descends s.metas (class_of (store_after s c) o.0) k) (live_same ∙ dead)
      ∙ sym (ap (λ b. b && descends s.metas (class_of s o.0) k) dead)

  changed_same : is_object_of (store_after s c) k o ≡ is_object_of s k o
  changed_same = changed_by (is_live s o.0) refl

assign_same : (s t : Contents) (o p : ℕ) (vs : List Value) → assign s o p vs ≡ Ok t → Same s t
assign_same s t o p vs e = subst (Same s) (accepted (refusal_of s (change_of s o p vs)) (store_after s (change_of s o p vs)) t e).1 (λ k x. changed_same s (change_of s o p vs) k x)

write_same : (s t : Contents) (o p : ℕ) (op : SetOp) (vs : List Value) → write s o p op vs ≡ Ok t → Same s t
write_same s t o p Put vs e = assign_same s t o p vs e
write_same s t o p Add vs e = assign_same s t o p (slot_of s o p ++ vs) e

on_same : (r : Result Contents StoreFault) (at : Place) (f : Contents → Result Contents End) (s t : Contents) → ((u : Contents) → r ≡ Ok u → f u ≡ Ok t → Same s t) → patch_on r at f ≡ Ok t → Same s t
on_same (Ok u) at f s t k e = k u refl e
on_same (Err x) at f s t k e = absurd (cc)

patched_same : (s t : Contents) (vs : List LateValue) → patched s vs ≡ Ok t → Same s t
patched_same s t [] e = let same : s ≡ t = cc in subst (Same s) same (λ k o. refl)
patched_same s t (v ∷ vs) e =
    on_same (written s v) v.place (λ u. patched u vs) s t (λ u is rest k o. patched_same u t vs rest k o ∙ write_same s u v.object.0 v.feature.0 v.op (map Obj v.values) is k o) e

pub candidates_same : CandidatesStay
unfolding candidates
candidates_same s t vs trace q e =
    ap (λ (test : Oid → Bool). distinct (filter test (filter_map (far_end q) (matched_by q q.sources trace)))) (λ i o. patched_same s t vs e q.class.0 o i)
