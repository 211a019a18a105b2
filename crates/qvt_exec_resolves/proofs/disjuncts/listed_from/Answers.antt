use Rattle.std.proofs.Common.{[], fold}
use Rattle.qvt_exec_types.specs.Program.{program_view}
use Rattle.qvt_meaning.specs.Program.{with_number}
use Rattle.qvt_exec_resolves.specs.Disjuncts.{from, next_of}
use Rattle.qvt_exec_resolves.proofs.Searched.{goes_on, gets_less}
use Rattle.qvt_exec_resolves.proofs.disjuncts.listed_from.Goals as goal

pub loop-turn-smaller : goal.loop-turn-smaller
loop-turn-smaller c = gets_less (next_of (program_view c.args.program.now)) c.loop-turn.search c.next.new.self c.take.new.self c.in-Some.turn c.in-Some.ensures.turn c.in_ok-take.ensures

pub loop-turn-preserved : goal.loop-turn-preserved
loop-turn-preserved c =
    goes_on (next_of (program_view c.args.program.now)) (fold with_number [] (from (next_of (program_view c.args.program.now)) c.args.depth c.args.mapping)) c.loop-turn.search c.next.new.self c.take.new.self c.in-Some.turn
    c.loop-turn.invariant c.in-Some.ensures.listed c.in-Some.ensures.done c.in-Some.ensures.turn c.in_ok-take.ensures
