-- What an expression or a step of one form is made of.
use Rattle.std.specs.Prelude.{ℕ, List, Option, Some, None}
use Rattle.qvt_base.specs.declared.numbers.Place.{Place}
use Rattle.qvt_tree_types.specs.declared.types.PathTree.{PathTree}
use Rattle.qvt_tree_types.specs.declared.words.Sign.{Sign}
use Rattle.qvt_tree_types.specs.Tree.{ExprTerm, PathExpr, ResultExpr, PostExpr, PrefixExpr, StepTerm, StepTerms, DotStep, NoArgs}

-- the path that the expression is
abbrev pub path_in : ExprTerm → Option PathTree
path_in (PathExpr path) = Some path
path_in _ = None

-- the place of `result`, where the expression is that
abbrev pub result_in : ExprTerm → Option Place
result_in (ResultExpr place) = Some place
result_in _ = None

-- what stands before the steps, and the steps
abbrev pub post_in : ExprTerm → Option (ExprTerm × StepTerms)
post_in (PostExpr first steps place) = Some (first, steps)
post_in _ = None

-- the signs, and the operand after them
abbrev pub prefix_in : ExprTerm → Option (List Sign × ExprTerm)
prefix_in (PrefixExpr signs operand place) = Some (signs, operand)
prefix_in _ = None

-- the name without arguments that the step is, with its place
abbrev pub member_in : StepTerm → Option (List ℕ × Place)
member_in (DotStep name NoArgs place) = Some (name, place)
member_in _ = None
