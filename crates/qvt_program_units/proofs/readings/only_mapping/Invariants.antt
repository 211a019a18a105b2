use Rattle.std.proofs.Common.{◌≡◌, ◌++◌, drop}
use Rattle.qvt_types_program.specs.Program.{program_view}
use Rattle.qvt_program_units.specs.Chosen.{as_list, units_of}
use Rattle.qvt_program_units.proofs.readings.only_mapping.Given as goal

abbrev pub invariant-loop-mapping : goal.invariant-loop-mapping
invariant-loop-mapping l = as_list l.only ++ units_of (program_view l.program) (drop l.mapping-index l.mappings) ≡ units_of (program_view l.program) l.mappings
