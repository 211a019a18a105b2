use Rattle.std.proofs.Common.{◌≡◌, ◌++◌, drop}
use Rattle.qvt_metamodel.specs.Lists.{all_lists}
use Rattle.qvt_types_classes.specs.Inherited.{read_from, same_told_from}
use Rattle.qvt_types_classes.proofs.reading.read_all.Given as goal

abbrev pub invariant-loop-place : goal.invariant-loop-place
invariant-loop-place l = record {
  read : l.read ++ read_from l.all (all_lists l.lists) l.place (drop l.place l.classes) ≡ read_from l.all (all_lists l.lists) 0 l.classes;
  told : l.log ++ same_told_from l.all (all_lists l.lists) l.place (drop l.place l.classes) ≡ l.initial.log ++ same_told_from l.all (all_lists l.lists) 0 l.classes;
}
