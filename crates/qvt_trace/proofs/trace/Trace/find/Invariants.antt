use Rattle.std.proofs.Common.{◌≡◌, drop, filter, position}
use Rattle.qvt_trace.specs.Keys.{is_of}
use Rattle.qvt_trace.proofs.Found.{first_of, is_at}
use Rattle.qvt_trace.proofs.trace.Trace.find.Given as goal

abbrev pub invariant-loop-number : goal.invariant-loop-number
invariant-loop-number l = position (is_of l.mapping l.context l.args) l.self
    ≡ first_of (filter (is_at l.mapping l.context l.args l.self) (drop l.number-index l.number-items))
