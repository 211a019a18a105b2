-- The items so far and those of what is left are the items in order.
use Rattle.std.proofs.Common.{◌≡◌, ◌++◌, map}
use Rattle.qvt_run_rules.specs.declared.keyed.Keyed.{Keyed}
use Rattle.qvt_run_rules.specs.Iterators.{items_sorted}
use Rattle.qvt_exec_words.proofs.iterators.items_sorted.Given as goal

abbrev pub invariant-loop-one : goal.invariant-loop-one
invariant-loop-one l = l.all ++ map (λ (k : Keyed). k.item) l.one-iterator.rest.items ≡ items_sorted l.fn.items
