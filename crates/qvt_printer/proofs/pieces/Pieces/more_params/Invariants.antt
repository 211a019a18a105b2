use Rattle.std.proofs.Common.{◌≡◌, ◌++◌, drop, map}
use Rattle.qvt_printer.specs.Units as printed
use Rattle.qvt_tree_types.specs.Module as tree
use Rattle.qvt_printer.proofs.pieces.Pieces.more_params.Given as goal

abbrev pub invariant-loop-param : goal.invariant-loop-param
invariant-loop-param l = l.self ++ printed.more_params (map tree.param_view (drop l.param-index l.params)) ≡ l.initial.self ++ printed.more_params (map tree.param_view (l.params))
