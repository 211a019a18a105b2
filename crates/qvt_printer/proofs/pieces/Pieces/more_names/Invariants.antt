use Rattle.std.proofs.Common.{◌≡◌, ◌++◌, drop}
use Rattle.qvt_printer.specs.Expressions as printed
use Rattle.qvt_printer.proofs.pieces.Pieces.more_names.Given as goal

abbrev pub invariant-loop-name : goal.invariant-loop-name
invariant-loop-name l = l.self ++ printed.more_names (drop l.name-index l.names) ≡ l.initial.self ++ printed.more_names (l.names)
