use Rattle.std.proofs.Common.{◌≡◌, ℕ, ◌/◌, ◌<◌, length, take}
use Rattle.qvt_counts.specs.Counts.{count_at}
use Rattle.qvt_types_choices.specs.HowMany.{how_many}
use Rattle.qvt_types_choices.specs.Sets.{word_count}
use Rattle.qvt_types_choices.proofs.CountedSets.{over_in}
use Rattle.qvt_types_choices.proofs.stuck.counts_of.Given as goal

abbrev pub invariant-loop-number : goal.invariant-loop-number
invariant-loop-number l = record {
  each : length l.counts ≡ word_count l.count;
  counts : (d : ℕ) → d / 64 < length l.counts → count_at l.counts d ≡ how_many (over_in l.metas l.units d) (take l.number-index l.group);
}
