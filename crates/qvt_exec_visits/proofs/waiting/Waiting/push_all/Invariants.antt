-- What is left of the items, put first, is what all of them put first is.
use Rattle.std.proofs.Common.{◌≡◌, ◌++◌, length}
use Rattle.qvt_run_rules.specs.Sources.{present_items}
use Rattle.qvt_exec_visits.proofs.waiting.Waiting.push_all.Given as goal

abbrev pub invariant-loop-item : goal.invariant-loop-item
invariant-loop-item l = present_items l.rest ++ l.self ≡ present_items l.fn.items ++ l.fn.self

abbrev pub decreases-loop-item : goal.decreases-loop-item
decreases-loop-item l = length l.rest
