use Rattle.std.proofs.Common.{◌≡◌, ◌++◌, map}
use Rattle.qvt_meaning.specs.Run as run
use Rattle.qvt_exec_finish.specs.Entries.{entries_over, entry_view}
use Rattle.qvt_exec_finish.proofs.walk.walk.Given as goal

abbrev pub invariant-loop-write : goal.invariant-loop-write
invariant-loop-write g l = record {
  entries : map entry_view l.entries ++ entries_over (g.A.LateAnswers.program l.answers) l.ended l.write-iterator.rest.items ≡ entries_over (g.A.LateAnswers.program l.answers) l.ended l.fn.writes;
  rest : run.walk l.fuel l.fn.cost (entries_over (g.A.LateAnswers.program l.answers) l.ended l.fn.writes) ≡ run.walk l.fuel l.cost (entries_over (g.A.LateAnswers.program l.answers) l.ended l.write-iterator.rest.items);
}
