use Rattle.std.proofs.Common.{◌∙◌, ap}
use Rattle.std.specs.Prelude.{slice_get}
use Rattle.qvt_types_program.proofs.Numbered.{unit_found}
use Rattle.qvt_types_program.proofs.program.Program.mapping_unit.Goals as goal

pub returns : goal.returns
returns c =
    c.copied.ensures ∙ c.get.ensures.value ∙ ap (λ t. slice_get t.mappings c.args.mapping.0) c.args.self.now.tables_are
    ∙ unit_found c.args.self.now.declarations.units.units c.args.mapping.0 c.args.self.now.numbered
