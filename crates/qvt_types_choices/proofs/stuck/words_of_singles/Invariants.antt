use Rattle.std.proofs.Common.{◌≡◌, length, take}
use Rattle.std.specs.List.{list_any}
use Rattle.qvt_counts.specs.Counts.{bits}
use Rattle.qvt_types_choices.specs.Only.{is_only}
use Rattle.qvt_types_choices.specs.Sets.{IsSetOf}
use Rattle.qvt_types_choices.proofs.stuck.words_of_singles.Given as goal

abbrev pub invariant-loop-number : goal.invariant-loop-number
invariant-loop-number l = record {
  each : length l.words ≡ length l.counts;
  marks : IsSetOf l.metas (λ d. list_any (λ k. is_only l.metas l.units l.group k d) (take l.number-index l.group)) (bits l.words);
}
