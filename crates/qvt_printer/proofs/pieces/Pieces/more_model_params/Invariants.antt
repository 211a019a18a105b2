use Rattle.std.proofs.Common.{◌≡◌, ◌++◌, drop}
use Rattle.qvt_printer.specs.Units as printed
use Rattle.qvt_printer.proofs.pieces.Pieces.more_model_params.Given as goal

abbrev pub invariant-loop-param : goal.invariant-loop-param
invariant-loop-param l = l.self ++ printed.more_model_params (drop l.param-index l.params) ≡ l.initial.self ++ printed.more_model_params (l.params)
