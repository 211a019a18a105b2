use Rattle.std.proofs.Common.{◌∙◌, ◌++◌, ◌∷◌, [], sym, ap, subst, List, length}
use Rattle.std.specs.Prelude.{Ok}
use Rattle.qvt_value.specs.declared.value.Value.{Value}
use Rattle.qvt_slots.specs.declared.commit.Write.{Write}
use Rattle.qvt_slots.specs.Contents.{Contents, slot_of}
use Rattle.qvt_slots.specs.Assign.{change_to, store_after}
use Rattle.qvt_store.specs.Ready.{Ready}
use Rattle.qvt_slots.specs.Writes.{released_of}
use Rattle.qvt_store.proofs.Assigning.{live_added, removes_held, early, cross, done, ready}
use Rattle.qvt_store.proofs.Appending.{adds_last, removes_none, list_assignable, length-last, count_is}
use Rattle.qvt_store.proofs.store.Store.append_linked.Goals as goal

pub check-requires-clause-added : goal.check-requires-clause-added
check-requires-clause-added c = live_added c.args.self.now c.args.object c.args.feature (slot_of c.args.self.now c.args.object.0 c.args.feature.0 ++ c.args.value.now ∷ []) (slot_of c.args.self.now c.args.object.0 c.args.feature.0 ++ c.args.value.now ∷ []) c.in_ok-added.added c.new.result c.requires.known (list_assignable c.args.self.now c.args.object.0 c.args.feature.0 (c.args.value.now ∷ []) c.requires.known c.requires.can) (sym c.requires.last)
    (adds_last (slot_of c.args.self.now c.args.object.0 c.args.feature.0) (c.args.value.now ∷ []) c.in_ok-added.added c.in_ok-added.ensures)
    (c.new.ensures ∙ removes_none (slot_of c.args.self.now c.args.object.0 c.args.feature.0) (c.args.value.now ∷ []))

pub check-requires-clause-removed : goal.check-requires-clause-removed
check-requires-clause-removed c = removes_held c.args.self.now c.args.object c.args.feature (slot_of c.args.self.now c.args.object.0 c.args.feature.0 ++ c.args.value.now ∷ []) (slot_of c.args.self.now c.args.object.0 c.args.feature.0 ++ c.args.value.now ∷ []) c.in_ok-added.added c.new.result c.requires.known (list_assignable c.args.self.now c.args.object.0 c.args.feature.0 (c.args.value.now ∷ []) c.requires.known c.requires.can) (sym c.requires.last)
    (adds_last (slot_of c.args.self.now c.args.object.0 c.args.feature.0) (c.args.value.now ∷ []) c.in_ok-added.added c.in_ok-added.ensures)
    (c.new.ensures ∙ removes_none (slot_of c.args.self.now c.args.object.0 c.args.feature.0) (c.args.value.now ∷ []))

pub plan-requires : goal.plan-requires
plan-requires c = removes_held c.args.self.now c.args.object c.args.feature (slot_of c.args.self.now c.args.object.0 c.args.feature.0 ++ c.args.value.now ∷ []) (slot_of c.args.self.now c.args.object.0 c.args.feature.0 ++ c.args.value.now ∷ []) c.in_ok-added.added c.new.result c.requires.known (list_assignable c.args.self.now c.args.object.0 c.args.feature.0 (c.args.value.now ∷ []) c.requires.known c.requires.can) (sym c.requires.last)
    (adds_last (slot_of c.args.self.now c.args.object.0 c.args.feature.0) (c.args.value.now ∷ []) c.in_ok-added.added c.in_ok-added.ensures)
    (c.new.ensures ∙ removes_none (slot_of c.args.self.now c.args.object.0 c.args.feature.0) (c.args.value.now ∷ []))

pub returns-in-Err-clause-refused : goal.returns-in-Err-clause-refused
returns-in-Err-clause-refused c other = early c.args.self.now c.args.object c.args.feature (slot_of c.args.self.now c.args.object.0 c.args.feature.0 ++ c.args.value.now ∷ []) (slot_of c.args.self.now c.args.object.0 c.args.feature.0 ++ c.args.value.now ∷ []) c.in_ok-added.added c.new.result c.requires.known (list_assignable c.args.self.now c.args.object.0 c.args.feature.0 (c.args.value.now ∷ []) c.requires.known c.requires.can) (sym c.requires.last)
    (adds_last (slot_of c.args.self.now c.args.object.0 c.args.feature.0) (c.args.value.now ∷ []) c.in_ok-added.added c.in_ok-added.ensures)
    (c.new.ensures ∙ removes_none (slot_of c.args.self.now c.args.object.0 c.args.feature.0) (c.args.value.now ∷ []))
    c.in-Err.fault c.in-Some.count (length-last (slot_of c.args.self.now c.args.object.0 c.args.feature.0) c.args.value.now (length c.list.result.now) c.in-Some.count (ap length c.list.ensures) (count_is (length c.list.result.now) 1 c.checked_add.result c.in-Some.count c.checked_add.ensures c.in-Some.is)) c.in-Err.ensures.refused other

pub returns-then-crosses_last-clause-refused : goal.returns-then-crosses_last-clause-refused
returns-then-crosses_last-clause-refused c _ = cross c.args.self.now c.args.object c.args.feature (slot_of c.args.self.now c.args.object.0 c.args.feature.0 ++ c.args.value.now ∷ []) (slot_of c.args.self.now c.args.object.0 c.args.feature.0 ++ c.args.value.now ∷ []) c.in_ok-added.added c.new.result c.requires.known (list_assignable c.args.self.now c.args.object.0 c.args.feature.0 (c.args.value.now ∷ []) c.requires.known c.requires.can) (sym c.requires.last)
    (adds_last (slot_of c.args.self.now c.args.object.0 c.args.feature.0) (c.args.value.now ∷ []) c.in_ok-added.added c.in_ok-added.ensures)
    (c.new.ensures ∙ removes_none (slot_of c.args.self.now c.args.object.0 c.args.feature.0) (c.args.value.now ∷ []))
    c.in-Some.count (length-last (slot_of c.args.self.now c.args.object.0 c.args.feature.0) c.args.value.now (length c.list.result.now) c.in-Some.count (ap length c.list.ensures) (count_is (length c.list.result.now) 1 c.checked_add.result c.in-Some.count c.checked_add.ensures c.in-Some.is)) c.in-Ok.ensures.ok (sym c.crosses_last.ensures ∙ c.if-crosses_last.true)

pub carry_append-requires : goal.carry_append-requires
carry_append-requires c = subst (λ (v : Value). Ready c.args.self.now (record { object = c.args.object; feature = c.args.feature; added = c.in_ok-added.added; removed = c.new.result }) ((slot_of c.args.self.now c.args.object.0 c.args.feature.0) ++ v ∷ []) c.in-Ok-plan.writes.items c.as_slice.result.now) (sym c.in_ok-copy.ensures) (ready c.args.self.now c.args.object c.args.feature (slot_of c.args.self.now c.args.object.0 c.args.feature.0 ++ c.args.value.now ∷ []) (slot_of c.args.self.now c.args.object.0 c.args.feature.0 ++ c.args.value.now ∷ []) c.in_ok-added.added c.new.result c.requires.known (list_assignable c.args.self.now c.args.object.0 c.args.feature.0 (c.args.value.now ∷ []) c.requires.known c.requires.can) (sym c.requires.last)
    (adds_last (slot_of c.args.self.now c.args.object.0 c.args.feature.0) (c.args.value.now ∷ []) c.in_ok-added.added c.in_ok-added.ensures)
    (c.new.ensures ∙ removes_none (slot_of c.args.self.now c.args.object.0 c.args.feature.0) (c.args.value.now ∷ []))
    c.in-Some.count (length-last (slot_of c.args.self.now c.args.object.0 c.args.feature.0) c.args.value.now (length c.list.result.now) c.in-Some.count (ap length c.list.ensures) (count_is (length c.list.result.now) 1 c.checked_add.result c.in-Some.count c.checked_add.ensures c.in-Some.is)) c.in-Ok.ensures.ok (sym c.crosses_last.ensures ∙ c.if-crosses_last.false) c.in-Ok-plan.writes.items c.as_slice.result.now c.in-Ok-plan.ensures
    (c.as_slice.ensures ∙ c.in_ok-released.ensures ∙ ap (λ (l : List Write). released_of c.args.self.now.metas (slot_of c.args.self.now) (record { object = c.args.object; feature = c.args.feature; added = c.in_ok-added.added; removed = c.new.result }) l) c.deref.ensures.value))

pub returns-in-Ok-carry_append-clause-ok : goal.returns-in-Ok-carry_append-clause-ok
returns-in-Ok-carry_append-clause-ok c = done c.args.self.now c.args.object c.args.feature (slot_of c.args.self.now c.args.object.0 c.args.feature.0 ++ c.args.value.now ∷ []) (slot_of c.args.self.now c.args.object.0 c.args.feature.0 ++ c.args.value.now ∷ []) c.in_ok-added.added c.new.result c.requires.known (list_assignable c.args.self.now c.args.object.0 c.args.feature.0 (c.args.value.now ∷ []) c.requires.known c.requires.can) (sym c.requires.last)
    (adds_last (slot_of c.args.self.now c.args.object.0 c.args.feature.0) (c.args.value.now ∷ []) c.in_ok-added.added c.in_ok-added.ensures)
    (c.new.ensures ∙ removes_none (slot_of c.args.self.now c.args.object.0 c.args.feature.0) (c.args.value.now ∷ []))
    c.in-Some.count (length-last (slot_of c.args.self.now c.args.object.0 c.args.feature.0) c.args.value.now (length c.list.result.now) c.in-Some.count (ap length c.list.ensures) (count_is (length c.list.result.now) 1 c.checked_add.result c.in-Some.count c.checked_add.ensures c.in-Some.is)) c.in-Ok.ensures.ok (sym c.crosses_last.ensures ∙ c.if-crosses_last.false)
    ∙ ap (λ (s : Contents). Ok s) (sym (c.in-Ok-carry_append.ensures.ok ∙ ap (λ (v : Value). store_after c.args.self.now (change_to c.args.self.now c.args.object.0 c.args.feature.0 ((slot_of c.args.self.now c.args.object.0 c.args.feature.0) ++ v ∷ []))) c.in_ok-copy.ensures))
