use Rattle.std.proofs.Common.{◌∙◌, ap}
use Rattle.qvt_ocl_words.specs.Lists.{has}
use Rattle.qvt_exec_visits.proofs.Items.{held}
use Rattle.qvt_exec_visits.proofs.reached.Reached.has.Goals as goal

pub returns : goal.returns
returns c = c.contains.ensures ∙ held c.self.inside.items.keys c.args.item.now ∙ ap (λ xs. has xs c.args.item.now) c.self.view_is
