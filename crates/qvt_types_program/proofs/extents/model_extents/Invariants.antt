use Rattle.std.proofs.Common.{◌≡◌, ◌++◌, drop}
use Rattle.qvt_types_program.specs.Extents.{extents_from}
use Rattle.qvt_types_program.proofs.extents.model_extents.Given as goal

abbrev pub invariant-loop-place : goal.invariant-loop-place
invariant-loop-place l = l.extents ++ extents_from l.rows l.place (drop l.place l.names) ≡ extents_from l.rows 0 l.names
