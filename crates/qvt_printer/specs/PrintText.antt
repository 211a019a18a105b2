-- The printed text of a transformation: the one text that its tree has (QVT 1.3, 8.4).
use Rattle.std.specs.Prelude.{ℕ, List}
use Rattle.qvt_tree_types.specs.Module.{ModuleTerm}
use Rattle.qvt_printer_layout.specs.Layout.{laid_out}
use Rattle.qvt_printer.specs.Units.{module_pieces}

unfoldable pub print_text : ModuleTerm → List ℕ
print_text m = laid_out (module_pieces m)
