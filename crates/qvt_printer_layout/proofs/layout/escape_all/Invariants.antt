use Rattle.std.proofs.Common.{◌≡◌, ◌++◌, flat_map}
use Rattle.qvt_printer_layout.specs.Layout as layout
use Rattle.qvt_printer_layout.proofs.layout.escape_all.Given as goal

abbrev pub invariant-loop-c : goal.invariant-loop-c
invariant-loop-c l = l.text ≡ l.initial.text ++ flat_map layout.escaped l.yielded
