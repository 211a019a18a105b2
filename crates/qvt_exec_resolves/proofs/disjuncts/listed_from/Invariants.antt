use Rattle.std.proofs.Common.{[], fold}
use Rattle.qvt_exec_types.specs.Program.{program_view}
use Rattle.qvt_meaning.specs.Program.{with_number}
use Rattle.qvt_exec_resolves.specs.Disjuncts.{from, next_of}
use Rattle.qvt_exec_resolves.proofs.Searched.{IsSearch, size}
use Rattle.qvt_exec_resolves.proofs.disjuncts.listed_from.Given as goal

abbrev pub invariant-loop-turn : goal.invariant-loop-turn
invariant-loop-turn l = IsSearch (next_of (program_view l.program)) (fold with_number [] (from (next_of (program_view l.program)) l.depth l.mapping)) l.search

abbrev pub decreases-loop-turn : goal.decreases-loop-turn
decreases-loop-turn l = size (next_of (program_view l.program)) l.search
