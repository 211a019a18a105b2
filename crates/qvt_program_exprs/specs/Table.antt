-- The table of the expressions of a program, and the conditions that it gives.
use Rattle.std.specs.Prelude.{◌≡◌}
use Rattle.std.specs.Option.{option_copied}
use Rattle.qvt_types_nodes.specs.View.{typed_expr_view}
use Rattle.qvt_types_program.specs.Program.{program_view}
use Rattle.qvt_meaning.specs.Numbered as numbered
use Rattle.qvt_program_exprs.specs.Index.{IsExprIndex}
use Rattle.qvt_program_exprs.specs.Listing.{listing}
use Rattle.qvt_program_exprs.specs.declared.table.Condition.{Condition}
use Rattle.qvt_program_exprs.specs.declared.table.Expressions.{Expressions}

-- it lists the expressions of its program, and finds each by its number
pub record IsTable (es : Expressions) : Type 0 where
  pub lists : listing es.all ≡ numbered.all_listed (program_view es.program.now)
  pub finds : IsExprIndex (listing es.all) es.places

abbrev pub condition_view : Condition → numbered.ConditionTerm
condition_view c = record { variable = option_copied c.variable; expr = typed_expr_view c.expr.now }
