use Rattle.std.proofs.Common.{◌≡◌, ◌∙◌, ◌++◌, ◌∷◌, [], sym, ap, subst, List, length, true, false}
use Rattle.std.specs.Prelude.{Ok}
use Rattle.qvt_value.specs.declared.value.Value.{Value}
use Rattle.qvt_slots.specs.Contents.{Contents, slot_of}
use Rattle.qvt_slots.specs.Assign.{crosses}
use Rattle.qvt_store.proofs.Assigning.{live_added, removes_held, early, cross, done}
use Rattle.qvt_store.proofs.Appending.{same_none, list_assignable, none_told}
use Rattle.qvt_store.proofs.store.Store.append_none.Goals as goal

pub check-requires-clause-added : goal.check-requires-clause-added
check-requires-clause-added c = live_added c.args.self.now c.args.object c.args.feature (slot_of c.args.self.now c.args.object.0 c.args.feature.0 ++ c.args._value.now ∷ []) (slot_of c.args.self.now c.args.object.0 c.args.feature.0) c.new-added.result c.new-removed.result c.requires.known (list_assignable c.args.self.now c.args.object.0 c.args.feature.0 (c.args._value.now ∷ []) c.requires.known c.requires.can) (sym c.requires.same)
    (c.new-added.ensures ∙ same_none (slot_of c.args.self.now c.args.object.0 c.args.feature.0))
    (c.new-removed.ensures ∙ same_none (slot_of c.args.self.now c.args.object.0 c.args.feature.0))

pub check-requires-clause-removed : goal.check-requires-clause-removed
check-requires-clause-removed c = removes_held c.args.self.now c.args.object c.args.feature (slot_of c.args.self.now c.args.object.0 c.args.feature.0 ++ c.args._value.now ∷ []) (slot_of c.args.self.now c.args.object.0 c.args.feature.0) c.new-added.result c.new-removed.result c.requires.known (list_assignable c.args.self.now c.args.object.0 c.args.feature.0 (c.args._value.now ∷ []) c.requires.known c.requires.can) (sym c.requires.same)
    (c.new-added.ensures ∙ same_none (slot_of c.args.self.now c.args.object.0 c.args.feature.0))
    (c.new-removed.ensures ∙ same_none (slot_of c.args.self.now c.args.object.0 c.args.feature.0))

pub returns-in-Err-clause-refused : goal.returns-in-Err-clause-refused
returns-in-Err-clause-refused c other = early c.args.self.now c.args.object c.args.feature (slot_of c.args.self.now c.args.object.0 c.args.feature.0 ++ c.args._value.now ∷ []) (slot_of c.args.self.now c.args.object.0 c.args.feature.0) c.new-added.result c.new-removed.result c.requires.known (list_assignable c.args.self.now c.args.object.0 c.args.feature.0 (c.args._value.now ∷ []) c.requires.known c.requires.can) (sym c.requires.same)
    (c.new-added.ensures ∙ same_none (slot_of c.args.self.now c.args.object.0 c.args.feature.0))
    (c.new-removed.ensures ∙ same_none (slot_of c.args.self.now c.args.object.0 c.args.feature.0))
    c.in-Err.fault (length c.list-old.result.now) (ap length c.list-old.ensures) c.in-Err.ensures.refused other

pub returns-then-crosses-clause-refused : goal.returns-then-crosses-clause-refused
returns-then-crosses-clause-refused c _ = cross c.args.self.now c.args.object c.args.feature (slot_of c.args.self.now c.args.object.0 c.args.feature.0 ++ c.args._value.now ∷ []) (slot_of c.args.self.now c.args.object.0 c.args.feature.0) c.new-added.result c.new-removed.result c.requires.known (list_assignable c.args.self.now c.args.object.0 c.args.feature.0 (c.args._value.now ∷ []) c.requires.known c.requires.can) (sym c.requires.same)
    (c.new-added.ensures ∙ same_none (slot_of c.args.self.now c.args.object.0 c.args.feature.0))
    (c.new-removed.ensures ∙ same_none (slot_of c.args.self.now c.args.object.0 c.args.feature.0))
    (length c.list-old.result.now) (ap length c.list-old.ensures) c.in-Ok.ensures.ok (subst (λ (l : List Value). crosses c.args.self.now c.args.object.0 l ≡ true) c.list.ensures (sym c.crosses.ensures ∙ c.if-crosses.true))

pub returns-clause-ok : goal.returns-clause-ok
returns-clause-ok c = done c.args.self.now c.args.object c.args.feature (slot_of c.args.self.now c.args.object.0 c.args.feature.0 ++ c.args._value.now ∷ []) (slot_of c.args.self.now c.args.object.0 c.args.feature.0) c.new-added.result c.new-removed.result c.requires.known (list_assignable c.args.self.now c.args.object.0 c.args.feature.0 (c.args._value.now ∷ []) c.requires.known c.requires.can) (sym c.requires.same)
    (c.new-added.ensures ∙ same_none (slot_of c.args.self.now c.args.object.0 c.args.feature.0))
    (c.new-removed.ensures ∙ same_none (slot_of c.args.self.now c.args.object.0 c.args.feature.0))
    (length c.list-old.result.now) (ap length c.list-old.ensures) c.in-Ok.ensures.ok (subst (λ (l : List Value). crosses c.args.self.now c.args.object.0 l ≡ false) c.list.ensures (sym c.crosses.ensures ∙ c.if-crosses.false))
    ∙ ap (λ (s : Contents). Ok s) (none_told c.args.self.now c.args.object.0 c.args.feature.0 c.requires.known)
