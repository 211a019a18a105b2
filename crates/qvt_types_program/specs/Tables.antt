-- What a program is asked by number.
use Rattle.std.specs.Prelude.{List}
use Rattle.qvt_tree_types.specs.declared.module.ModelParam.{ModelParam}
use Rattle.qvt_types_heads.specs.declared.declarations.Declarations.{Declarations}
use Rattle.qvt_types_program.specs.declared.tables.ProgramTables.{ProgramTables}
use Rattle.qvt_types_program.specs.Mappings.{mapping_units, mapping_names}

-- of these model parameters, and of what the heads declare
abbrev pub tables_of : List ModelParam → Declarations → ProgramTables
tables_of ps d = record { params = ps; mappings = mapping_units d.units.units; names = mapping_names d.units.metas d.units.units }
