-- The first of the rest is the first of all.
use Rattle.std.proofs.Common.{◌≡◌, drop}
use Rattle.std.specs.List.{find}
use Rattle.qvt_value.specs.Make.{is_invalid}
use Rattle.qvt_ocl.proofs.operands.invalid_in.Given as goal

abbrev pub invariant-loop-arg : goal.invariant-loop-arg
invariant-loop-arg l = find is_invalid (drop l.arg-index l.args) ≡ find is_invalid l.args
