use Rattle.std.proofs.Common.{◌≡◌, ℕ, ◌&&◌, length}
use Rattle.std.specs.Prelude.{nat_lt}
use Rattle.qvt_metas.specs.Kept.{is_marked}
use Rattle.qvt_counts.specs.Counts.{bits}
use Rattle.qvt_types_choices.specs.Stuck.{is_stuck}
use Rattle.qvt_types_choices.specs.ByClass.{choices}
use Rattle.qvt_types_choices.specs.Sets.{word_count}
use Rattle.qvt_types_choices.proofs.class_choices.choices_by.Given as goal

abbrev pub invariant-loop-class : goal.invariant-loop-class
invariant-loop-class l = record {
  each : l.each ≡ choices l.metas l.units l.group l.class;
  words : length l.stuck ≡ word_count l.count;
  marks : (d : ℕ) → is_marked (bits l.stuck) d ≡ (nat_lt d l.class && is_stuck l.metas l.units l.group d);
}
