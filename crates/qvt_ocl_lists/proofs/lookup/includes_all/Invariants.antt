use Rattle.std.proofs.Common.{◌≡◌, drop}
use Rattle.std.specs.List.{list_all}
use Rattle.qvt_ocl_words.specs.Lists.{has}
use Rattle.qvt_ocl_lists.proofs.lookup.includes_all.Given as goal

abbrev pub invariant-loop-value : goal.invariant-loop-value
invariant-loop-value l = list_all (has l.items) (drop l.value-index l.values) ≡ list_all (has l.items) l.values
