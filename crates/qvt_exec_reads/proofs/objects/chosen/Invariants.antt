use Rattle.std.proofs.Common.{◌≡◌, take}
use Rattle.std.specs.Prelude.{filter}
use Rattle.qvt_run_rules.specs.Expressions.{is_selected}
use Rattle.qvt_exec_reads.proofs.objects.chosen.Given as goal

abbrev pub invariant-loop-item : goal.invariant-loop-item
invariant-loop-item l = l.kept ≡ filter (is_selected l.store l.exact l.class.0) (take l.item-index l.items)
