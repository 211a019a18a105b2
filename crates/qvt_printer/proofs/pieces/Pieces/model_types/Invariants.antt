use Rattle.std.proofs.Common.{◌≡◌, ◌++◌, drop}
use Rattle.qvt_printer.specs.Units as printed
use Rattle.qvt_printer.proofs.pieces.Pieces.model_types.Given as goal

abbrev pub invariant-loop-kind : goal.invariant-loop-kind
invariant-loop-kind l = l.self ++ printed.model_types (drop l.kind-index l.types) ≡ l.initial.self ++ printed.model_types (l.types)
