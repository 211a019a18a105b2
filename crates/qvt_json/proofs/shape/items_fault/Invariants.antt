use Rattle.std.proofs.Common.{◌≡◌, drop}
use Rattle.serde_json.specs.View.{items_view}
use Rattle.qvt_json.specs.Shape.{items_fault}
use Rattle.qvt_json.proofs.shape.items_fault.Given as goal

abbrev pub invariant-loop-i : goal.invariant-loop-i
invariant-loop-i g l = items_fault (g.F.Form.form l.form) l.i (items_view (drop l.i l.item-items)) ≡ items_fault (g.F.Form.form l.form) 0 (items_view l.item-items)
