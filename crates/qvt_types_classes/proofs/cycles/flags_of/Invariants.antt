use Rattle.std.proofs.Common.{◌≡◌, map}
use Rattle.std.specs.List.{range_with_len}
use Rattle.qvt_cycle.specs.Successors.{is_on_cycle}
use Rattle.qvt_types_classes.proofs.cycles.flags_of.Given as goal

abbrev pub invariant-loop-number : goal.invariant-loop-number
invariant-loop-number l = l.flags ≡ map (is_on_cycle l.lists) (range_with_len 0 l.number)
