use Rattle.std.proofs.Common.{◌≡◌, drop, fold}
use Rattle.qvt_printer_layout.specs.Layout as layout
use Rattle.qvt_printer_layout.proofs.layout.laid_out.Given as goal

abbrev pub invariant-loop-piece : goal.invariant-loop-piece
invariant-loop-piece l = fold layout.laid l.sheet (drop l.piece-index l.pieces) ≡ fold layout.laid layout.blank_sheet l.pieces
