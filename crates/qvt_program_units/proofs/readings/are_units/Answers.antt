use Rattle.std.proofs.Common.{◌∙◌, ◌<◌, length, arith}
use Rattle.qvt_types_program.specs.Program.{program_view}
use Rattle.qvt_program_units.proofs.Mappings.{none_left}
use Rattle.qvt_program_units.proofs.readings.are_units.Goals as goal

pub returns-in-empty : goal.returns-in-empty
returns-in-empty c =
    let more : c.loop-mapping.mapping-index < length c.args.mappings.now = omega (arith, c.loop-mapping-test.true) in
    none_left (program_view c.args.program.now) c.args.mappings.now c.loop-mapping.units.now c.loop-mapping.mapping-index more c.in-empty.len_below ∙ c.loop-mapping.invariant
