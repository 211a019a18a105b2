use Rattle.std.proofs.Common.{take}
use Rattle.qvt_outcome.specs.Plans.{files_in, AllWritten}
use Rattle.qvt_outcome.proofs.plan.write_all.Given as goal

abbrev pub invariant-loop-i : goal.invariant-loop-i
invariant-loop-i g l = AllWritten (files_in (take l.i l.outputs)) (g.F.Files.seen l.initial.files) (g.F.Files.seen l.files)
