use Rattle.std.proofs.Common.{◌≡◌, ◌++◌, replicate}
use Rattle.qvt_printer_layout.proofs.layout.blanks.Given as goal

abbrev pub invariant-loop : goal.invariant-loop
invariant-loop l = l.text ≡ l.initial.text ++ replicate l.counter 32
