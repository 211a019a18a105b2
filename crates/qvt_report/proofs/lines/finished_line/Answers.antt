use Rattle.std.proofs.Common.{◌∙◌}
use Rattle.qvt_report.proofs.Told.{finished_is}
use Rattle.qvt_report.proofs.lines.finished_line.Goals as goal

pub returns : goal.returns
returns c = λ f done file fuel.
    c.in_ok-line.ensures ∙ finished_is file fuel c.args.ids.now f c.args.store.now c.args.records c.args.entries c.args.cost done c.in_ok-low.low c.in_ok-low.ensures
