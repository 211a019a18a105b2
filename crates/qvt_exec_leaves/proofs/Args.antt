-- Arguments of steps.
use Rattle.std.proofs.Common.{◌≡◌, ◌≤◌, refl, List, [], ◌∷◌, map, length, None, arith}
use Rattle.qvt_types_nodes.specs.declared.tree.TypedExpr.{TypedExpr}
use Rattle.qvt_types_nodes.specs.View.{typed_expr_view, typed_exprs_of}
use Rattle.qvt_meaning.specs.Nodes as nodes

-- several are no class
pub no_class : (es : List TypedExpr) → 2 ≤ length es → None ≡ nodes.class_argument (typed_exprs_of (map typed_expr_view es))
no_class [] many = absurd (omega (arith, many))
no_class (e ∷ []) many = absurd (omega (arith, many))
no_class (e ∷ f ∷ es) many = refl
