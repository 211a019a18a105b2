use Rattle.std.proofs.Common.{◌∙◌, ap, length, arith}
use Rattle.qvt_types_groups.specs.Numbers.{is_mapping}
use Rattle.qvt_types_program.proofs.Counted.{counted, few}
use Rattle.qvt_types_program.proofs.program.Program.mapping_count.Goals as goal

pub overflow_cast-result : goal.overflow_cast-result
overflow_cast-result c =
    omega (arith, c.len.ensures, ap (λ t. length t.mappings) c.args.self.now.tables_are, few (λ u. is_mapping u.sort) 0 c.args.self.now.declarations.units.units, ap length c.names.ensures, c.count-units.ensures, c.count-units.type_inv)

pub returns : goal.returns
returns c = c.len.ensures ∙ ap (λ t. length t.mappings) c.args.self.now.tables_are ∙ counted (λ u. is_mapping u.sort) 0 c.args.self.now.declarations.units.units
