use Rattle.std.proofs.Common.{◌≡◌, ◌++◌, map, drop}
use Rattle.std.specs.List.{filter_map}
use Rattle.serde_json.specs.View.{view}
use Rattle.qvt_model.specs.Writing.{value_written}
use Rattle.qvt_model.proofs.write.values_written.Given as goal

abbrev pub invariant-loop-value : goal.invariant-loop-value
invariant-loop-value l = map view l.written.items ++ filter_map (value_written l.metas l.places) (drop l.value-index l.values) ≡ filter_map (value_written l.metas l.places) l.values
