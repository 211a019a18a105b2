use Rattle.std.proofs.Common.{◌≡◌, ◌++◌, drop, map}
use Rattle.qvt_printer.specs.Units as printed
use Rattle.qvt_tree_types.specs.Module as tree
use Rattle.qvt_printer.proofs.pieces.Pieces.fields.Given as goal

abbrev pub invariant-loop-field : goal.invariant-loop-field
invariant-loop-field l = l.self ++ printed.fields (map tree.field_view (drop l.field-index l.fields)) ≡ l.initial.self ++ printed.fields (map tree.field_view (l.fields))
