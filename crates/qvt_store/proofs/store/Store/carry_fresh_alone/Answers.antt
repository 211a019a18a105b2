use Rattle.std.proofs.Common.{◌∙◌, ◌++◌, sym, ap, subst}
use Rattle.qvt_slots.specs.Contents.{Contents, slot_of}
use Rattle.qvt_slots.specs.Assign.{change_to, store_after}
use Rattle.qvt_store.specs.Ready.{IsLone}
use Rattle.qvt_store.proofs.Alone.{lone_kept, lone_store}
use Rattle.qvt_store.proofs.SameCells.{same_kept}
use Rattle.qvt_store.proofs.store.Store.carry_fresh_alone.Goals as goal

pub invariant_of-self : goal.invariant_of-self
invariant_of-self c = same_kept c.self.inside.metas c.self.inside.extents c.self.inside.cells.items c.push_values.new.cells.items c.self.inside.members.items c.self.inside.marks c.in_err-push_values.ensures.err c.self.invariant

pub invariant_of-self-2 : goal.invariant_of-self-2
invariant_of-self-2 c =
    let lone = subst (λ (s : Contents). IsLone s c.args.object.0 c.args.feature.0 c.args.fresh) (sym c.self.view_is) c.requires in
    lone_kept c.self.inside.metas c.self.inside.extents c.self.inside.cells.items c.push_values.new.cells.items c.args.object c.args.feature c.args.fresh c.self.invariant.whole lone c.in_ok-push_values.ensures.ok
    c.self.inside.members.items c.self.inside.marks c.self.invariant

pub returns-clause-ok : goal.returns-clause-ok
returns-clause-ok c =
    let lone = subst (λ (s : Contents). IsLone s c.args.object.0 c.args.feature.0 c.args.fresh) (sym c.self.view_is) c.requires in
    lone_store c.self.inside.metas c.self.inside.extents c.self.inside.cells.items c.push_values.new.cells.items c.args.object c.args.feature c.args.fresh c.self.invariant.whole lone c.in_ok-push_values.ensures.ok
    ∙ ap (λ (s : Contents). store_after s (change_to s c.args.object.0 c.args.feature.0 (slot_of s c.args.object.0 c.args.feature.0 ++ c.args.fresh))) c.self.view_is
