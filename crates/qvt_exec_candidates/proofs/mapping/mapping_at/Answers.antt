use Rattle.std.proofs.Common.{◌≡◌, Some}
use Rattle.qvt_meaning.specs.Program.{mapping_unit}
use Rattle.qvt_exec_phrases.specs.Program.{program_view}
use Rattle.qvt_exec_candidates.specs.Stage.{setting_in}
use Rattle.qvt_exec_candidates.proofs.Found.{found}
use Rattle.qvt_exec_candidates.proofs.mapping.mapping_at.Goals as goal

pub returns-in-Some : goal.returns-in-Some
returns-in-Some g c =
    let is : Some c.in-Some.unit ≡ mapping_unit (program_view c.program-program.result.now) c.args.number = cc in
    λ run. found (setting_in (run, g.C.UnitCalls.means c.args.units.now)) (g.C.UnitCalls.means c.args.units.now).calls c.args.number c.in-Some.unit (program_view c.program-program.result.now) c.signature_of.result.now _ c.mapping_in.result
    c.program-program.ensures is c.signature_of.ensures c.unit_of.ensures (c.mapping_in.ensures _ _)
