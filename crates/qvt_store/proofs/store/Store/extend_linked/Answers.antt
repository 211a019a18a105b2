use Rattle.std.proofs.Common.{◌∙◌, ◌++◌, sym, ap, List, length}
use Rattle.std.specs.Prelude.{Ok}
use Rattle.qvt_value.specs.declared.value.Value.{Value}
use Rattle.qvt_slots.specs.declared.commit.Write.{Write}
use Rattle.qvt_slots.specs.Change.{objects_beyond}
use Rattle.qvt_slots.specs.Contents.{Contents, slot_of}
use Rattle.qvt_slots.specs.Assign.{crosses}
use Rattle.qvt_slots.specs.Writes.{released_of}
use Rattle.qvt_store.proofs.Assigning.{live_added, removes_held, early, cross, done, ready}
use Rattle.qvt_store.proofs.Appending.{adds_last, removes_none, list_assignable, length-more, count_is}
use Rattle.qvt_store.proofs.store.Store.extend_linked.Goals as goal

pub check-requires-clause-added : goal.check-requires-clause-added
check-requires-clause-added c = live_added c.args.self.now c.args.object c.args.feature (slot_of c.args.self.now c.args.object.0 c.args.feature.0 ++ c.args._values.now) (slot_of c.args.self.now c.args.object.0 c.args.feature.0 ++ c.args.fresh) c.in_ok-added.added c.new.result c.requires.known (list_assignable c.args.self.now c.args.object.0 c.args.feature.0 c.args._values.now c.requires.known c.requires.can) (sym c.requires.last)
    (adds_last (slot_of c.args.self.now c.args.object.0 c.args.feature.0) c.args.fresh c.in_ok-added.added (c.in_ok-added.ensures ∙ ap (λ (l : List Value). objects_beyond (slot_of c.args.self.now c.args.object.0 c.args.feature.0) l) c.as_slice.ensures))
    (c.new.ensures ∙ removes_none (slot_of c.args.self.now c.args.object.0 c.args.feature.0) c.args.fresh)

pub check-requires-clause-removed : goal.check-requires-clause-removed
check-requires-clause-removed c = removes_held c.args.self.now c.args.object c.args.feature (slot_of c.args.self.now c.args.object.0 c.args.feature.0 ++ c.args._values.now) (slot_of c.args.self.now c.args.object.0 c.args.feature.0 ++ c.args.fresh) c.in_ok-added.added c.new.result c.requires.known (list_assignable c.args.self.now c.args.object.0 c.args.feature.0 c.args._values.now c.requires.known c.requires.can) (sym c.requires.last)
    (adds_last (slot_of c.args.self.now c.args.object.0 c.args.feature.0) c.args.fresh c.in_ok-added.added (c.in_ok-added.ensures ∙ ap (λ (l : List Value). objects_beyond (slot_of c.args.self.now c.args.object.0 c.args.feature.0) l) c.as_slice.ensures))
    (c.new.ensures ∙ removes_none (slot_of c.args.self.now c.args.object.0 c.args.feature.0) c.args.fresh)

pub plan-requires : goal.plan-requires
plan-requires c = removes_held c.args.self.now c.args.object c.args.feature (slot_of c.args.self.now c.args.object.0 c.args.feature.0 ++ c.args._values.now) (slot_of c.args.self.now c.args.object.0 c.args.feature.0 ++ c.args.fresh) c.in_ok-added.added c.new.result c.requires.known (list_assignable c.args.self.now c.args.object.0 c.args.feature.0 c.args._values.now c.requires.known c.requires.can) (sym c.requires.last)
    (adds_last (slot_of c.args.self.now c.args.object.0 c.args.feature.0) c.args.fresh c.in_ok-added.added (c.in_ok-added.ensures ∙ ap (λ (l : List Value). objects_beyond (slot_of c.args.self.now c.args.object.0 c.args.feature.0) l) c.as_slice.ensures))
    (c.new.ensures ∙ removes_none (slot_of c.args.self.now c.args.object.0 c.args.feature.0) c.args.fresh)

pub returns-in-Err-clause-refused : goal.returns-in-Err-clause-refused
returns-in-Err-clause-refused c other = early c.args.self.now c.args.object c.args.feature (slot_of c.args.self.now c.args.object.0 c.args.feature.0 ++ c.args._values.now) (slot_of c.args.self.now c.args.object.0 c.args.feature.0 ++ c.args.fresh) c.in_ok-added.added c.new.result c.requires.known (list_assignable c.args.self.now c.args.object.0 c.args.feature.0 c.args._values.now c.requires.known c.requires.can) (sym c.requires.last)
    (adds_last (slot_of c.args.self.now c.args.object.0 c.args.feature.0) c.args.fresh c.in_ok-added.added (c.in_ok-added.ensures ∙ ap (λ (l : List Value). objects_beyond (slot_of c.args.self.now c.args.object.0 c.args.feature.0) l) c.as_slice.ensures))
    (c.new.ensures ∙ removes_none (slot_of c.args.self.now c.args.object.0 c.args.feature.0) c.args.fresh)
    c.in-Err.fault c.in-Some.count (length-more (slot_of c.args.self.now c.args.object.0 c.args.feature.0) c.args.fresh (length c.list.result.now) c.len.result c.in-Some.count (ap length c.list.ensures) c.len.ensures (count_is (length c.list.result.now) c.len.result c.checked_add.result c.in-Some.count c.checked_add.ensures c.in-Some.is)) c.in-Err.ensures.refused other

pub returns-then-crosses_more-clause-refused : goal.returns-then-crosses_more-clause-refused
returns-then-crosses_more-clause-refused c _ = cross c.args.self.now c.args.object c.args.feature (slot_of c.args.self.now c.args.object.0 c.args.feature.0 ++ c.args._values.now) (slot_of c.args.self.now c.args.object.0 c.args.feature.0 ++ c.args.fresh) c.in_ok-added.added c.new.result c.requires.known (list_assignable c.args.self.now c.args.object.0 c.args.feature.0 c.args._values.now c.requires.known c.requires.can) (sym c.requires.last)
    (adds_last (slot_of c.args.self.now c.args.object.0 c.args.feature.0) c.args.fresh c.in_ok-added.added (c.in_ok-added.ensures ∙ ap (λ (l : List Value). objects_beyond (slot_of c.args.self.now c.args.object.0 c.args.feature.0) l) c.as_slice.ensures))
    (c.new.ensures ∙ removes_none (slot_of c.args.self.now c.args.object.0 c.args.feature.0) c.args.fresh)
    c.in-Some.count (length-more (slot_of c.args.self.now c.args.object.0 c.args.feature.0) c.args.fresh (length c.list.result.now) c.len.result c.in-Some.count (ap length c.list.ensures) c.len.ensures (count_is (length c.list.result.now) c.len.result c.checked_add.result c.in-Some.count c.checked_add.ensures c.in-Some.is)) c.in-Ok.ensures.ok (sym (c.crosses_more.ensures ∙ ap (λ (l : List Value). crosses c.args.self.now c.args.object.0 (slot_of c.args.self.now c.args.object.0 c.args.feature.0 ++ l)) c.as_slice-2.ensures) ∙ c.if-crosses_more.true)

pub carry_fresh-requires : goal.carry_fresh-requires
carry_fresh-requires c = ready c.args.self.now c.args.object c.args.feature (slot_of c.args.self.now c.args.object.0 c.args.feature.0 ++ c.args._values.now) (slot_of c.args.self.now c.args.object.0 c.args.feature.0 ++ c.args.fresh) c.in_ok-added.added c.new.result c.requires.known (list_assignable c.args.self.now c.args.object.0 c.args.feature.0 c.args._values.now c.requires.known c.requires.can) (sym c.requires.last)
    (adds_last (slot_of c.args.self.now c.args.object.0 c.args.feature.0) c.args.fresh c.in_ok-added.added (c.in_ok-added.ensures ∙ ap (λ (l : List Value). objects_beyond (slot_of c.args.self.now c.args.object.0 c.args.feature.0) l) c.as_slice.ensures))
    (c.new.ensures ∙ removes_none (slot_of c.args.self.now c.args.object.0 c.args.feature.0) c.args.fresh)
    c.in-Some.count (length-more (slot_of c.args.self.now c.args.object.0 c.args.feature.0) c.args.fresh (length c.list.result.now) c.len.result c.in-Some.count (ap length c.list.ensures) c.len.ensures (count_is (length c.list.result.now) c.len.result c.checked_add.result c.in-Some.count c.checked_add.ensures c.in-Some.is)) c.in-Ok.ensures.ok (sym (c.crosses_more.ensures ∙ ap (λ (l : List Value). crosses c.args.self.now c.args.object.0 (slot_of c.args.self.now c.args.object.0 c.args.feature.0 ++ l)) c.as_slice-2.ensures) ∙ c.if-crosses_more.false) c.in-Ok-plan.writes.items c.as_slice-3.result.now c.in-Ok-plan.ensures
    (c.as_slice-3.ensures ∙ c.in_ok-released.ensures ∙ ap (λ (l : List Write). released_of c.args.self.now.metas (slot_of c.args.self.now) (record { object = c.args.object; feature = c.args.feature; added = c.in_ok-added.added; removed = c.new.result }) l) c.deref.ensures.value)

pub returns-in-Ok-carry_fresh-clause-ok : goal.returns-in-Ok-carry_fresh-clause-ok
returns-in-Ok-carry_fresh-clause-ok c = done c.args.self.now c.args.object c.args.feature (slot_of c.args.self.now c.args.object.0 c.args.feature.0 ++ c.args._values.now) (slot_of c.args.self.now c.args.object.0 c.args.feature.0 ++ c.args.fresh) c.in_ok-added.added c.new.result c.requires.known (list_assignable c.args.self.now c.args.object.0 c.args.feature.0 c.args._values.now c.requires.known c.requires.can) (sym c.requires.last)
    (adds_last (slot_of c.args.self.now c.args.object.0 c.args.feature.0) c.args.fresh c.in_ok-added.added (c.in_ok-added.ensures ∙ ap (λ (l : List Value). objects_beyond (slot_of c.args.self.now c.args.object.0 c.args.feature.0) l) c.as_slice.ensures))
    (c.new.ensures ∙ removes_none (slot_of c.args.self.now c.args.object.0 c.args.feature.0) c.args.fresh)
    c.in-Some.count (length-more (slot_of c.args.self.now c.args.object.0 c.args.feature.0) c.args.fresh (length c.list.result.now) c.len.result c.in-Some.count (ap length c.list.ensures) c.len.ensures (count_is (length c.list.result.now) c.len.result c.checked_add.result c.in-Some.count c.checked_add.ensures c.in-Some.is)) c.in-Ok.ensures.ok (sym (c.crosses_more.ensures ∙ ap (λ (l : List Value). crosses c.args.self.now c.args.object.0 (slot_of c.args.self.now c.args.object.0 c.args.feature.0 ++ l)) c.as_slice-2.ensures) ∙ c.if-crosses_more.false)
    ∙ ap (λ (s : Contents). Ok s) (sym c.in-Ok-carry_fresh.ensures.ok)
