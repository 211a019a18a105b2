use Rattle.std.proofs.Common.{◌≡◌, drop, map}
use Rattle.qvt_types_nodes.specs.View.{typed_expr_view, typed_exprs_of}
use Rattle.qvt_meaning.specs.Nodes.{types_of}
use Rattle.qvt_exec_types.proofs.Listed.{with_before}
use Rattle.qvt_exec_types.proofs.arguments.types_of.Given as goal

abbrev pub invariant-loop-arg : goal.invariant-loop-arg
invariant-loop-arg l = with_before l.types (types_of (typed_exprs_of (map typed_expr_view (drop l.arg-index l.args)))) ≡ types_of (typed_exprs_of (map typed_expr_view l.args))
