use Rattle.std.proofs.Common.{◌≡◌, ◌+◌, length, drop}
use Rattle.std.specs.List.{flat_map}
use Rattle.qvt_store.specs.Contents.{members_of}
use Rattle.qvt_report.proofs.extents.count_of.Given as goal

abbrev pub invariant-loop-extent : goal.invariant-loop-extent
invariant-loop-extent l = l.count + length (flat_map (members_of l.store) (drop l.extent-index l.extents)) ≡ length (flat_map (members_of l.store) l.extents)
