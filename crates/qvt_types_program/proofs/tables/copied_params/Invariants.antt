use Rattle.std.proofs.Common.{◌≡◌, take}
use Rattle.qvt_types_program.proofs.tables.copied_params.Given as goal

abbrev pub invariant-loop-param : goal.invariant-loop-param
invariant-loop-param l = l.copies ≡ take l.param-index l.params
