use Rattle.std.proofs.Common.{◌≡◌, [], drop}
use Rattle.qvt_exec_resolves.specs.Sources.{objects_with}
use Rattle.qvt_exec_resolves.proofs.sources.found_in.Given as goal

abbrev pub invariant-loop-item : goal.invariant-loop-item
invariant-loop-item l = objects_with l.objects (drop l.item-index l.items) ≡ objects_with [] l.items
