-- The expressions of a program as the code lists them.
use Rattle.std.specs.Prelude.{ℕ, List, map, Option, Some, None}
use Rattle.qvt_types_nodes.specs.View.{typed_expr_view}
use Rattle.qvt_meaning.specs.Numbered.{Listed}
use Rattle.qvt_program_exprs.specs.declared.listed.FilterName.{FilterName}
use Rattle.qvt_program_exprs.specs.declared.listed.FilterName.TheVariants.{NoFilter, Unnamed, Named}
use Rattle.qvt_program_exprs.specs.declared.listed.ListedExpr.{ListedExpr}

abbrev pub filter_view : FilterName → Option (Option (List ℕ))
filter_view NoFilter = None
filter_view Unnamed = Some None
filter_view (Named name) = Some (Some name.now)

abbrev pub listed_view : ListedExpr → Listed
listed_view l = record { filter = filter_view l.filter; expr = typed_expr_view l.expr.now }

unfoldable pub listing : List ListedExpr → List Listed
listing ls = map listed_view ls
