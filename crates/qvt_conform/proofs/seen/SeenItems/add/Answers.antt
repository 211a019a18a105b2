use Rattle.std.proofs.Common.{◌≡◌, ◌∙◌, ap, not, sym, subst, IfOk}
use Rattle.std.specs.List.{list_any}
use Rattle.qvt_conform.specs.Items.{same_item}
use Rattle.qvt_conform.proofs.SameItems.{held}
use Rattle.qvt_conform.proofs.seen.SeenItems.add.Goals as goal
use Rattle.qvt_conform.proofs.seen.SeenItems.add.Goals.{in-Ok, in-Err}

pub returns-clause-new : goal.returns-clause-new
returns-clause-new c = elim c.match-insert.branch [
  | in-Ok w ↦ subst (λ r. IfOk r (λ b. b ≡ not (list_any (same_item c.args.item.now) c.args.self.now))) (sym w.result-is)
      (w.in-Ok.ensures.added ∙ ap not (held c.args.item c.self.inside.keys.keys ∙ ap (list_any (same_item c.args.item.now)) c.self.view_is))
  | in-Err w ↦ subst (λ r. IfOk r (λ b. b ≡ not (list_any (same_item c.args.item.now) c.args.self.now))) (sym w.result-is) tt
]
