use Rattle.std.proofs.Common.{◌∙◌, ap}
use Rattle.qvt_types_program.proofs.Numbered.{name_there, name_past}
use Rattle.qvt_types_program.proofs.program.Program.mapping_name.Goals as goal

pub returns-then-at-names : goal.returns-then-at-names
returns-then-at-names c =
    c.as_str.ensures
    ∙ name_there c.args.self.now.declarations.units.metas c.args.self.now.declarations.units.units c.args.mapping.0 c.as_slice-names.result.now c.index-names-at.result c.args.self.now.numbered
    (c.as_slice-names.ensures ∙ ap (λ t. t.names) c.args.self.now.tables_are)
    c.if-at-names.true
    c.index-names-at.is

pub returns-else-at-names : goal.returns-else-at-names
returns-else-at-names c =
    name_past c.args.self.now.declarations.units.metas c.args.self.now.declarations.units.units c.args.mapping.0 c.as_slice-names.result.now c.args.self.now.numbered
    (c.as_slice-names.ensures ∙ ap (λ t. t.names) c.args.self.now.tables_are)
    c.if-at-names.false
