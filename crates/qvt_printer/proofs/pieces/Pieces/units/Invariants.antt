use Rattle.std.proofs.Common.{◌≡◌, ◌++◌, drop, map}
use Rattle.qvt_printer.specs.Units as printed
use Rattle.qvt_tree_types.specs.Module as tree
use Rattle.qvt_printer.proofs.pieces.Pieces.units.Given as goal

abbrev pub invariant-loop-unit : goal.invariant-loop-unit
invariant-loop-unit l = l.self ++ printed.units (map tree.unit_view (drop l.unit-index l.units)) ≡ l.initial.self ++ printed.units (map tree.unit_view (l.units))
