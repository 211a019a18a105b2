use Rattle.std.proofs.Common.{◌∙◌, ap}
use Rattle.qvt_trace.specs.Hashes.{has_hash}
use Rattle.qvt_trace.specs.Numbers.{numbers}
use Rattle.qvt_trace.proofs.Indexed.{all_below}
use Rattle.qvt_trace.proofs.trace.Trace.with_hash.Goals as goal

pub returns-clause-within : goal.returns-clause-within
returns-clause-within c = all_below (has_hash c.args.hash) c.args.self.now _ (c.at.ensures ∙ c.self.invariant.by_key c.args.hash ∙ ap (numbers (has_hash c.args.hash)) c.self.view_is)
