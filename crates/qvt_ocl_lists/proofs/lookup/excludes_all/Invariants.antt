use Rattle.std.proofs.Common.{◌≡◌, drop, not}
use Rattle.std.specs.List.{list_all}
use Rattle.qvt_ocl_words.specs.Lists.{has}
use Rattle.qvt_ocl_lists.proofs.lookup.excludes_all.Given as goal

abbrev pub invariant-loop-value : goal.invariant-loop-value
invariant-loop-value l = list_all (λ value. not (has l.items value)) (drop l.value-index l.values) ≡ list_all (λ value. not (has l.items value)) l.values
