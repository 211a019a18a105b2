use Rattle.std.proofs.Common.{◌≡◌, ◌++◌, drop}
use Rattle.qvt_types_program.specs.Program.{program_view}
use Rattle.qvt_program_units.specs.Chosen.{units_of}
use Rattle.qvt_program_units.proofs.readings.units_of.Given as goal

abbrev pub invariant-loop-mapping : goal.invariant-loop-mapping
invariant-loop-mapping l = l.numbers ++ units_of (program_view l.program) (drop l.mapping-index l.mappings) ≡ units_of (program_view l.program) l.mappings
