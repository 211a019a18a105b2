use Rattle.std.proofs.Common.{◌≡◌, ◌++◌, drop}
use Rattle.qvt_printer.specs.Expressions as printed
use Rattle.qvt_printer.proofs.pieces.Pieces.more_paths.Given as goal

abbrev pub invariant-loop-path : goal.invariant-loop-path
invariant-loop-path l = l.self ++ printed.more_paths (drop l.path-index l.paths) ≡ l.initial.self ++ printed.more_paths (l.paths)
