use Rattle.std.proofs.Common.{◌≡◌, drop}
use Rattle.std.specs.List.{filter_map}
use Rattle.qvt_model.specs.Writing.{value_written, head_of}
use Rattle.qvt_model.proofs.write.first_written.Given as goal

abbrev pub invariant-loop-value : goal.invariant-loop-value
invariant-loop-value l = head_of (filter_map (value_written l.metas l.places) (drop l.value-index l.values)) ≡ head_of (filter_map (value_written l.metas l.places) l.values)
