use Rattle.std.proofs.Common.{◌∙◌, sym, ap}
use Rattle.qvt_relation.proofs.Bools.{and_false}
use Rattle.qvt_slots.specs.Slots.{has}
use Rattle.qvt_slots.specs.Change.{is_left, leaves}
use Rattle.qvt_slots.specs.Contents.{slot_of}
use Rattle.qvt_store.specs.Draft.{drafted}
use Rattle.qvt_store.proofs.store.Store.is_left.Goals as goal

pub returns-else-leaves : goal.returns-else-leaves
returns-else-leaves c = sym (ap (λ q. is_left (drafted c.args.self.now c.args.draft.now) q c.args.object.0 c.args.item.0) c.in-Some.is
    ∙ and_false (has (slot_of c.args.self.now c.args.item.0 c.in-Some.back.0) c.args.object.0) (leaves (drafted c.args.self.now c.args.draft.now) c.args.item.0 c.in-Some.back.0 c.args.object.0)
    (λ _. sym c.leaves.ensures ∙ c.if-leaves.false))
