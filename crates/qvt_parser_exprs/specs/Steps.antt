-- Whether an expression ends in steps.
use Rattle.std.specs.Prelude.{Bool, true, false}
use Rattle.qvt_tree_types.specs.Tree.{ExprTerm, PostExpr}

abbrev pub has_steps : ExprTerm → Bool
has_steps (PostExpr e steps place) = true
has_steps _ = false
