use Rattle.std.proofs.Common.{◌≡◌, ◌++◌, map, drop}
use Rattle.qvt_metamodel.proofs.Fronts.{after}
use Rattle.qvt_metamodel.proofs.lists.add_fronts.Given as goal

abbrev pub invariant-loop-front : goal.invariant-loop-front
invariant-loop-front l = l.fronts ++ map (after l.start) (drop l.front-index l.others) ≡ l.initial.fronts ++ map (after l.start) l.others
