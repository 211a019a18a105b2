use Rattle.std.proofs.Common.{◌≤◌, ◌-◌, length, take}
use Rattle.qvt_outcome.specs.Reported.{IsWhole}
use Rattle.qvt_outcome.proofs.report.send.Given as goal

abbrev pub invariant-loop-at : goal.invariant-loop-at
invariant-loop-at g l = (l.at ≤ length l.text) × IsWhole (take l.at l.text) (g.S.Sink.seen l.initial.out) (g.S.Sink.seen l.out)

abbrev pub decreases-loop-at : goal.decreases-loop-at
decreases-loop-at g l = length l.text - l.at
