use Rattle.std.proofs.Common.{◌+◌, length}
use Rattle.qvt_cycle.specs.Search.{missing}
use Rattle.qvt_cycle.proofs.Searched.{IsSearch}
use Rattle.qvt_cycle.proofs.search.leads_back.Given as goal

abbrev pub invariant-loop-object : goal.invariant-loop-object
invariant-loop-object l = IsSearch l.lists l.start l.search

abbrev pub decreases-loop-object : goal.decreases-loop-object
decreases-loop-object l = missing l.search.marks + length l.search.pending
