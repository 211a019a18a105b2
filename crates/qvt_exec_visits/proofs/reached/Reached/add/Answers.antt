use Rattle.std.proofs.Common.{◌∙◌, ap}
use Rattle.qvt_exec_visits.specs.Visited.{with_item}
use Rattle.qvt_exec_visits.proofs.Items.{put_in}
use Rattle.qvt_exec_visits.proofs.reached.Reached.add.Goals as goal

pub returns : goal.returns
returns c = c.in-Ok.ensures.keys ∙ put_in c.self.inside.items.keys c.args.item ∙ ap (λ xs. with_item xs c.args.item) c.self.view_is
