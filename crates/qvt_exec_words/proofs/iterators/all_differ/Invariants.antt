-- The values that are left are counted once each exactly where all are.
use Rattle.std.proofs.Common.{◌≡◌, drop}
use Rattle.std.specs.Prelude.{◌==◌}
use Rattle.std.specs.List.{list_all}
use Rattle.qvt_ocl_words.specs.Lists.{count}
use Rattle.qvt_exec_words.proofs.iterators.all_differ.Given as goal

abbrev pub invariant-loop-value : goal.invariant-loop-value
invariant-loop-value l = list_all (λ v. count v l.values == 1) (drop l.value-index l.values) ≡ list_all (λ v. count v l.values == 1) l.values
