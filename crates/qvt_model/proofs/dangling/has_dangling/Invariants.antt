use Rattle.std.proofs.Common.{◌≡◌, drop}
use Rattle.std.specs.List.{list_any}
use Rattle.qvt_model.specs.Reading.{is_dangling}
use Rattle.qvt_model.proofs.dangling.has_dangling.Given as goal

abbrev pub invariant-loop-item : goal.invariant-loop-item
invariant-loop-item l = list_any (is_dangling l.count) (drop l.item-index l.items) ≡ list_any (is_dangling l.count) l.items
