-- A list stands one step above its items, and they one above the next list.
use Rattle.std.proofs.Common.{◌+◌, ◌*◌}
use Rattle.qvt_ocl_tests.proofs.values.+values.Given as goal

abbrev pub decreases-value_of : goal.decreases-value_of
decreases-value_of l = 2 * l.deepest

abbrev pub decreases-values_of : goal.decreases-values_of
decreases-values_of l = 2 * l.deepest + 1
