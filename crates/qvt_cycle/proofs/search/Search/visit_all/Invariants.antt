use Rattle.std.proofs.Common.{◌≡◌, drop}
use Rattle.qvt_cycle.specs.Search.{visit_all}
use Rattle.qvt_cycle.proofs.search.Search.visit_all.Given as goal

abbrev pub invariant-loop-object : goal.invariant-loop-object
invariant-loop-object l = visit_all l.self (drop l.object-index l.objects) ≡ visit_all l.initial.self l.objects
