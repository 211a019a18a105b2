use Rattle.std.proofs.Common.{◌≡◌, ◌++◌, drop, map}
use Rattle.qvt_types_nodes.specs.View.{typed_expr_view, typed_exprs_of}
use Rattle.qvt_meaning.specs.StepTypes.{class_parts}
use Rattle.qvt_exec_types.proofs.arguments.class_parts.Given as goal

abbrev pub invariant-loop-arg : goal.invariant-loop-arg
invariant-loop-arg l = l.parts ++ class_parts (typed_exprs_of (map typed_expr_view (drop l.arg-index l.args))) ≡ class_parts (typed_exprs_of (map typed_expr_view l.args))
