use Rattle.std.proofs.Common.{◌∙◌, Some, ap}
use Rattle.qvt_trace.specs.Keys.{has_result}
use Rattle.qvt_trace.specs.Numbers.{numbers}
use Rattle.qvt_trace.proofs.Indexed.{all_below, ended}
use Rattle.qvt_trace.proofs.trace.Trace.with_result.Goals as goal

pub returns-clause-within : goal.returns-clause-within
returns-clause-within c = all_below (has_result c.args.object) c.args.self.now _ (c.at.ensures ∙ c.self.invariant.by_result (Some c.args.object) ∙ ended (λ r. r.result) c.args.object c.self.inside.records ∙ ap (numbers (has_result c.args.object)) c.self.view_is)

pub returns-clause-exact : goal.returns-clause-exact
returns-clause-exact c = c.at.ensures ∙ c.self.invariant.by_result (Some c.args.object) ∙ ended (λ r. r.result) c.args.object c.self.inside.records ∙ ap (numbers (has_result c.args.object)) c.self.view_is
