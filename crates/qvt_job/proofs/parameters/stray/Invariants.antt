use Rattle.std.proofs.Common.{◌≡◌, drop}
use Rattle.qvt_job.specs.Parameters.{stray}
use Rattle.qvt_job.proofs.parameters.stray.Given as goal

abbrev pub invariant-loop-model : goal.invariant-loop-model
invariant-loop-model l = stray l.parameters (drop l.model-index l.models) ≡ stray l.parameters l.models
