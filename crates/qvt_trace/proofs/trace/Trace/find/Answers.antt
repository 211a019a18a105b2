use Rattle.std.proofs.Common.{◌∙◌, ap}
use Rattle.qvt_trace.specs.Hashes.{has_hash}
use Rattle.qvt_trace.specs.Numbers.{numbers}
use Rattle.qvt_trace.proofs.Found.{begun}
use Rattle.qvt_trace.proofs.trace.Trace.find.Goals as goal

pub loop-number-init : goal.loop-number-init
loop-number-init c = begun c.args.mapping c.args.context c.args.args.now c.args.self.now _ (c.with_hash-number-items.ensures.exact ∙ ap (λ h. numbers (has_hash h) c.args.self.now) c.key_hash.ensures)
