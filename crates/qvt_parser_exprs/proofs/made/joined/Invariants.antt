use Rattle.std.proofs.Common.{◌≡◌, ◌++◌}
use Rattle.qvt_parser_exprs.proofs.made.joined.Given as goal

abbrev pub invariant-loop-step : goal.invariant-loop-step
invariant-loop-step l = l.steps ++ l.step-iterator.rest.items ≡ l.fn.old ++ l.fn.more
