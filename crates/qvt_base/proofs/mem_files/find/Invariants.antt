use Rattle.std.proofs.Common.{◌≡◌}
use Rattle.std.specs.FinMap as finite
use Rattle.std.specs.FinMap.{find}
use Rattle.std.specs.Ordering.{nat_cmp}
use Rattle.std.specs.Cmp.Lexicographic.{slice_cmp}
use Rattle.std.specs.VecDeque.Iter.{deque_iter_rest}
use Rattle.qvt_base.specs.MemFiles.{held_of, pairs}
use Rattle.qvt_base.proofs.mem_files.find.Given as goal

abbrev pub invariant-loop-entry : goal.invariant-loop-entry
invariant-loop-entry l = finite.get (held_of (pairs l.log.items)) l.name ≡ find (slice_cmp nat_cmp) l.name (pairs (deque_iter_rest l.entry-iterator))
