use Rattle.std.proofs.Common.{◌≡◌, ◌∙◌, sym, ap, cond, subst, List, true, false}
use Rattle.std.specs.Prelude.{Ok, All}
use Rattle.qvt_value.specs.declared.value.Value.{Value}
use Rattle.qvt_slots.specs.declared.commit.Write.{Write}
use Rattle.qvt_slots.specs.Change.{objects_beyond}
use Rattle.qvt_slots.specs.Contents.{Contents, slot_of, with_slot}
use Rattle.qvt_slots.specs.Types.{HasCodeType}
use Rattle.qvt_value.specs.Kept.{firsts}
use Rattle.qvt_value.specs.Order.{order_of}
use Rattle.qvt_slots.specs.Assign.{crosses}
use Rattle.qvt_slots.specs.Writes.{released_of}
use Rattle.qvt_store.proofs.Assigning.{live_added, removes_held, early, cross, done, ready, stays_elsewhere, items_same, no_early, no_cross}
use Rattle.qvt_store.proofs.store.Store.assign_list.Goals as goal

pub check-requires-clause-added : goal.check-requires-clause-added
check-requires-clause-added c = live_added c.args.self.now c.args.object c.args.feature c.args.values.now c.in_ok-items.items c.in_ok-added.added c.in_ok-removed.removed c.is_unique_feature-unique.ensures.known c.requires (c.in_ok-items.ensures.list ∙ ap (λ b. cond b (firsts order_of c.args.values.now) c.args.values.now) c.is_unique_feature-unique.ensures.value)
    (c.in_ok-added.ensures ∙ ap (λ (l : List Value). objects_beyond l c.as_slice.result.now) c.list.ensures ∙ ap (λ (l : List Value). objects_beyond (slot_of c.args.self.now c.args.object.0 c.args.feature.0) l) c.as_slice.ensures)
    (c.in_ok-removed.ensures ∙ ap (λ (l : List Value). objects_beyond l c.list-2.result.now) c.as_slice-2.ensures ∙ ap (λ (l : List Value). objects_beyond c.in_ok-items.items l) c.list-2.ensures)

pub check-requires-clause-removed : goal.check-requires-clause-removed
check-requires-clause-removed c = removes_held c.args.self.now c.args.object c.args.feature c.args.values.now c.in_ok-items.items c.in_ok-added.added c.in_ok-removed.removed c.is_unique_feature-unique.ensures.known c.requires (c.in_ok-items.ensures.list ∙ ap (λ b. cond b (firsts order_of c.args.values.now) c.args.values.now) c.is_unique_feature-unique.ensures.value)
    (c.in_ok-added.ensures ∙ ap (λ (l : List Value). objects_beyond l c.as_slice.result.now) c.list.ensures ∙ ap (λ (l : List Value). objects_beyond (slot_of c.args.self.now c.args.object.0 c.args.feature.0) l) c.as_slice.ensures)
    (c.in_ok-removed.ensures ∙ ap (λ (l : List Value). objects_beyond l c.list-2.result.now) c.as_slice-2.ensures ∙ ap (λ (l : List Value). objects_beyond c.in_ok-items.items l) c.list-2.ensures)

pub plan-requires : goal.plan-requires
plan-requires c = removes_held c.args.self.now c.args.object c.args.feature c.args.values.now c.in_ok-items.items c.in_ok-added.added c.in_ok-removed.removed c.is_unique_feature-unique.ensures.known c.requires (c.in_ok-items.ensures.list ∙ ap (λ b. cond b (firsts order_of c.args.values.now) c.args.values.now) c.is_unique_feature-unique.ensures.value)
    (c.in_ok-added.ensures ∙ ap (λ (l : List Value). objects_beyond l c.as_slice.result.now) c.list.ensures ∙ ap (λ (l : List Value). objects_beyond (slot_of c.args.self.now c.args.object.0 c.args.feature.0) l) c.as_slice.ensures)
    (c.in_ok-removed.ensures ∙ ap (λ (l : List Value). objects_beyond l c.list-2.result.now) c.as_slice-2.ensures ∙ ap (λ (l : List Value). objects_beyond c.in_ok-items.items l) c.list-2.ensures)

pub returns-in-Err-clause-refused : goal.returns-in-Err-clause-refused
returns-in-Err-clause-refused c other = early c.args.self.now c.args.object c.args.feature c.args.values.now c.in_ok-items.items c.in_ok-added.added c.in_ok-removed.removed c.is_unique_feature-unique.ensures.known c.requires (c.in_ok-items.ensures.list ∙ ap (λ b. cond b (firsts order_of c.args.values.now) c.args.values.now) c.is_unique_feature-unique.ensures.value)
    (c.in_ok-added.ensures ∙ ap (λ (l : List Value). objects_beyond l c.as_slice.result.now) c.list.ensures ∙ ap (λ (l : List Value). objects_beyond (slot_of c.args.self.now c.args.object.0 c.args.feature.0) l) c.as_slice.ensures)
    (c.in_ok-removed.ensures ∙ ap (λ (l : List Value). objects_beyond l c.list-2.result.now) c.as_slice-2.ensures ∙ ap (λ (l : List Value). objects_beyond c.in_ok-items.items l) c.list-2.ensures)
    c.in-Err.fault c.len.result c.len.ensures c.in-Err.ensures.refused other

pub returns-then-crosses-clause-refused : goal.returns-then-crosses-clause-refused
returns-then-crosses-clause-refused c _ = cross c.args.self.now c.args.object c.args.feature c.args.values.now c.in_ok-items.items c.in_ok-added.added c.in_ok-removed.removed c.is_unique_feature-unique.ensures.known c.requires (c.in_ok-items.ensures.list ∙ ap (λ b. cond b (firsts order_of c.args.values.now) c.args.values.now) c.is_unique_feature-unique.ensures.value)
    (c.in_ok-added.ensures ∙ ap (λ (l : List Value). objects_beyond l c.as_slice.result.now) c.list.ensures ∙ ap (λ (l : List Value). objects_beyond (slot_of c.args.self.now c.args.object.0 c.args.feature.0) l) c.as_slice.ensures)
    (c.in_ok-removed.ensures ∙ ap (λ (l : List Value). objects_beyond l c.list-2.result.now) c.as_slice-2.ensures ∙ ap (λ (l : List Value). objects_beyond c.in_ok-items.items l) c.list-2.ensures)
    c.len.result c.len.ensures c.in-Ok.ensures.ok (subst (λ (l : List Value). crosses c.args.self.now c.args.object.0 l ≡ true) c.as_slice-3.ensures (sym c.crosses.ensures ∙ c.if-crosses.true))

pub carry_out-requires : goal.carry_out-requires
carry_out-requires c = ready c.args.self.now c.args.object c.args.feature c.args.values.now c.in_ok-items.items c.in_ok-added.added c.in_ok-removed.removed c.is_unique_feature-unique.ensures.known c.requires (c.in_ok-items.ensures.list ∙ ap (λ b. cond b (firsts order_of c.args.values.now) c.args.values.now) c.is_unique_feature-unique.ensures.value)
    (c.in_ok-added.ensures ∙ ap (λ (l : List Value). objects_beyond l c.as_slice.result.now) c.list.ensures ∙ ap (λ (l : List Value). objects_beyond (slot_of c.args.self.now c.args.object.0 c.args.feature.0) l) c.as_slice.ensures)
    (c.in_ok-removed.ensures ∙ ap (λ (l : List Value). objects_beyond l c.list-2.result.now) c.as_slice-2.ensures ∙ ap (λ (l : List Value). objects_beyond c.in_ok-items.items l) c.list-2.ensures)
    c.len.result c.len.ensures c.in-Ok.ensures.ok (subst (λ (l : List Value). crosses c.args.self.now c.args.object.0 l ≡ false) c.as_slice-3.ensures (sym c.crosses.ensures ∙ c.if-crosses.false)) c.in-Ok-plan.writes.items c.as_slice-4.result.now c.in-Ok-plan.ensures
    (c.as_slice-4.ensures ∙ c.in_ok-released.ensures ∙ ap (λ (l : List Write). released_of c.args.self.now.metas (slot_of c.args.self.now) (record { object = c.args.object; feature = c.args.feature; added = c.in_ok-added.added; removed = c.in_ok-removed.removed }) l) c.deref.ensures.value)

pub returns-clause-ok : goal.returns-clause-ok
returns-clause-ok c = done c.args.self.now c.args.object c.args.feature c.args.values.now c.in_ok-items.items c.in_ok-added.added c.in_ok-removed.removed c.is_unique_feature-unique.ensures.known c.requires (c.in_ok-items.ensures.list ∙ ap (λ b. cond b (firsts order_of c.args.values.now) c.args.values.now) c.is_unique_feature-unique.ensures.value)
    (c.in_ok-added.ensures ∙ ap (λ (l : List Value). objects_beyond l c.as_slice.result.now) c.list.ensures ∙ ap (λ (l : List Value). objects_beyond (slot_of c.args.self.now c.args.object.0 c.args.feature.0) l) c.as_slice.ensures)
    (c.in_ok-removed.ensures ∙ ap (λ (l : List Value). objects_beyond l c.list-2.result.now) c.as_slice-2.ensures ∙ ap (λ (l : List Value). objects_beyond c.in_ok-items.items l) c.list-2.ensures)
    c.len.result c.len.ensures c.in-Ok.ensures.ok (subst (λ (l : List Value). crosses c.args.self.now c.args.object.0 l ≡ false) c.as_slice-3.ensures (sym c.crosses.ensures ∙ c.if-crosses.false))
    ∙ ap (λ (s : Contents). Ok s) (sym c.carry_out.ensures.after)

pub returns-clause-set : goal.returns-clause-set
returns-clause-set c plain = c.carry_out.ensures.plain (stays_elsewhere c.args.self.now c.args.object c.args.feature c.args.values.now c.in_ok-items.items c.in_ok-added.added c.in_ok-removed.removed c.is_unique_feature-unique.ensures.known c.requires (c.in_ok-items.ensures.list ∙ ap (λ b. cond b (firsts order_of c.args.values.now) c.args.values.now) c.is_unique_feature-unique.ensures.value)
    (c.in_ok-added.ensures ∙ ap (λ (l : List Value). objects_beyond l c.as_slice.result.now) c.list.ensures ∙ ap (λ (l : List Value). objects_beyond (slot_of c.args.self.now c.args.object.0 c.args.feature.0) l) c.as_slice.ensures)
    (c.in_ok-removed.ensures ∙ ap (λ (l : List Value). objects_beyond l c.list-2.result.now) c.as_slice-2.ensures ∙ ap (λ (l : List Value). objects_beyond c.in_ok-items.items l) c.list-2.ensures) plain)
    ∙ ap (λ (l : List Value). with_slot c.args.self.now c.args.object.0 c.args.feature.0 l) (items_same c.args.self.now c.args.object c.args.feature c.args.values.now c.in_ok-items.items c.in_ok-added.added c.in_ok-removed.removed c.is_unique_feature-unique.ensures.known c.requires (c.in_ok-items.ensures.list ∙ ap (λ b. cond b (firsts order_of c.args.values.now) c.args.values.now) c.is_unique_feature-unique.ensures.value)
    (c.in_ok-added.ensures ∙ ap (λ (l : List Value). objects_beyond l c.as_slice.result.now) c.list.ensures ∙ ap (λ (l : List Value). objects_beyond (slot_of c.args.self.now c.args.object.0 c.args.feature.0) l) c.as_slice.ensures)
    (c.in_ok-removed.ensures ∙ ap (λ (l : List Value). objects_beyond l c.list-2.result.now) c.as_slice-2.ensures ∙ ap (λ (l : List Value). objects_beyond c.in_ok-items.items l) c.list-2.ensures) plain)

pub returns-in-Err-clause-memory : goal.returns-in-Err-clause-memory
returns-in-Err-clause-memory c plain = no_early c.args.self.now c.args.object c.args.feature c.args.values.now c.in_ok-items.items c.in_ok-added.added c.in_ok-removed.removed c.is_unique_feature-unique.ensures.known c.requires (c.in_ok-items.ensures.list ∙ ap (λ b. cond b (firsts order_of c.args.values.now) c.args.values.now) c.is_unique_feature-unique.ensures.value)
    (c.in_ok-added.ensures ∙ ap (λ (l : List Value). objects_beyond l c.as_slice.result.now) c.list.ensures ∙ ap (λ (l : List Value). objects_beyond (slot_of c.args.self.now c.args.object.0 c.args.feature.0) l) c.as_slice.ensures)
    (c.in_ok-removed.ensures ∙ ap (λ (l : List Value). objects_beyond l c.list-2.result.now) c.as_slice-2.ensures ∙ ap (λ (l : List Value). objects_beyond c.in_ok-items.items l) c.list-2.ensures)
    plain c.in-Err.fault c.len.result c.len.ensures c.in-Err.ensures.refused

pub returns-then-crosses-clause-memory : goal.returns-then-crosses-clause-memory
returns-then-crosses-clause-memory c plain = absurd (no_cross c.args.self.now c.args.object c.args.feature c.args.values.now c.in_ok-items.items c.in_ok-added.added c.in_ok-removed.removed c.is_unique_feature-unique.ensures.known c.requires (c.in_ok-items.ensures.list ∙ ap (λ b. cond b (firsts order_of c.args.values.now) c.args.values.now) c.is_unique_feature-unique.ensures.value)
    (c.in_ok-added.ensures ∙ ap (λ (l : List Value). objects_beyond l c.as_slice.result.now) c.list.ensures ∙ ap (λ (l : List Value). objects_beyond (slot_of c.args.self.now c.args.object.0 c.args.feature.0) l) c.as_slice.ensures)
    (c.in_ok-removed.ensures ∙ ap (λ (l : List Value). objects_beyond l c.list-2.result.now) c.as_slice-2.ensures ∙ ap (λ (l : List Value). objects_beyond c.in_ok-items.items l) c.list-2.ensures)
    plain (subst (λ (l : List Value). crosses c.args.self.now c.args.object.0 l ≡ true) c.as_slice-3.ensures (sym c.crosses.ensures ∙ c.if-crosses.true)))

pub returns-clause-plain : goal.returns-clause-plain
returns-clause-plain c = subst (All HasCodeType) (c.in_ok-items.ensures.list ∙ ap (λ b. cond b (firsts order_of c.args.values.now) c.args.values.now) c.is_unique_feature-unique.ensures.value) c.in_ok-items.ensures.plain
