use Rattle.std.proofs.Common.{◌≡◌, drop}
use Rattle.qvt_types_program.specs.Program.{program_view}
use Rattle.qvt_program_units.specs.Chosen.{are_units}
use Rattle.qvt_program_units.proofs.readings.are_units.Given as goal

abbrev pub invariant-loop-mapping : goal.invariant-loop-mapping
invariant-loop-mapping l = are_units (program_view l.program) (drop l.mapping-index l.mappings) l.units ≡ are_units (program_view l.program) l.mappings l.numbers
