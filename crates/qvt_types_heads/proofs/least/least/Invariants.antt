use Rattle.std.proofs.Common.{◌≡◌, drop}
use Rattle.qvt_types_context.specs.Accepts.{least, least_from}
use Rattle.qvt_types_heads.proofs.least.least.Given as goal

abbrev pub invariant-loop-refusal : goal.invariant-loop-refusal
invariant-loop-refusal l = least_from l.first (drop l.refusal-index l.refusals) ≡ least l.refusals
