use Rattle.qvt_exec_phrases.specs.Program.{program_view}
use Rattle.qvt_exec_candidates.specs.Stage.{setting_in}
use Rattle.qvt_exec_called.proofs.Found.{found}
use Rattle.qvt_exec_called.proofs.routine_at.routine_at.Goals as goal

pub returns : goal.returns
returns g c = λ run. found (setting_in (run, g.C.UnitCalls.means c.args.units.now)) (g.C.UnitCalls.means c.args.units.now).calls c.args.number (program_view c.program-program.result.now) c.signature_of.result.now _ c.routine_in.result
    c.program-program.ensures c.signature_of.ensures c.unit_of.ensures (c.routine_in.ensures _ _)
