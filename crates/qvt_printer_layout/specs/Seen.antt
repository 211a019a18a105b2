-- A sheet as clauses see it.
use Rattle.std.specs.Prelude.{length}
use Rattle.qvt_printer_layout.specs.Layout.{Sheet}
use Rattle.qvt_printer_layout.specs.declared.layout.Sheet.TheInside.{Inside}

abbrev pub seen : Inside → Sheet
seen s = record { text = s.text; margin = length s.margin; last = s.last }
