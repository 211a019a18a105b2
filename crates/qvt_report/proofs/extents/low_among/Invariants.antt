use Rattle.std.proofs.Common.{◌≡◌, drop}
use Rattle.qvt_meaning_report.specs.Meaning.{low_among}
use Rattle.qvt_report.proofs.extents.low_among.Given as goal

abbrev pub invariant-loop-extent : goal.invariant-loop-extent
invariant-loop-extent l = low_among l.store (drop l.extent-index l.extents) ≡ low_among l.store l.extents
