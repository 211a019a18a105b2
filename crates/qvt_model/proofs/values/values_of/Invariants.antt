use Rattle.std.proofs.Common.{◌≡◌, map, take}
use Rattle.qvt_model.specs.Loaded.{value_at}
use Rattle.qvt_model.proofs.values.values_of.Given as goal

abbrev pub invariant-loop-item : goal.invariant-loop-item
invariant-loop-item l = l.values ≡ map (value_at l.first) (take l.item-index l.items)
