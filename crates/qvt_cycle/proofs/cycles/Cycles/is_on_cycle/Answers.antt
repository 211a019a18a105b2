use Rattle.std.proofs.Common.{◌∙◌, sym}
use Rattle.qvt_cycle.proofs.Falling.{alone_off_cycle}
use Rattle.qvt_cycle.proofs.cycles.Cycles.is_on_cycle.Goals as goal

pub returns-then-not-leads_to_itself : goal.returns-then-not-leads_to_itself
returns-then-not-leads_to_itself c =
    sym (alone_off_cycle c.args.lists.now c.args.self.now.classes.items c.args.self.now.uses.items c.args.number c.requires.ready.falls c.requires.ready.uses c.requires.there
    (sym c.is_alone.ensures ∙ c.if-is_alone.true) (sym c.leads_to_itself.ensures ∙ c.if-not-leads_to_itself.true))
