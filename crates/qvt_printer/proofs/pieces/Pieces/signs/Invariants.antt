use Rattle.std.proofs.Common.{◌≡◌, ◌++◌, drop}
use Rattle.qvt_printer.specs.Expressions as printed
use Rattle.qvt_printer.proofs.pieces.Pieces.signs.Given as goal

abbrev pub invariant-loop-sign : goal.invariant-loop-sign
invariant-loop-sign l = l.self ++ printed.signs (drop l.sign-index l.signs) ≡ l.initial.self ++ printed.signs (l.signs)
