use Rattle.std.proofs.Common.{◌≡◌, ◌++◌, map, drop, option_map}
use Rattle.qvt_metamodel.proofs.Fronts.{after}
use Rattle.qvt_metamodel.proofs.lists.add_begins.Given as goal

abbrev pub invariant-loop-begin : goal.invariant-loop-begin
invariant-loop-begin l = l.begins ++ map (option_map (after l.start)) (drop l.begin-index l.others) ≡ l.initial.begins ++ map (option_map (after l.start)) l.others
