use Rattle.std.proofs.Common.{◌≡◌, drop}
use Rattle.qvt_job.specs.Parameters.{unserved}
use Rattle.qvt_job.proofs.parameters.unserved.Given as goal

abbrev pub invariant-loop-parameter : goal.invariant-loop-parameter
invariant-loop-parameter l = unserved l.job (drop l.parameter-index l.parameters) ≡ unserved l.job l.parameters
