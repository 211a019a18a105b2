use Rattle.std.proofs.Common.{◌≡◌, ℕ, ◌&&◌, true, length}
use Rattle.std.specs.Prelude.{nat_lt}
use Rattle.qvt_metas.specs.Kept.{is_marked}
use Rattle.qvt_counts.specs.Counts.{bits}
use Rattle.qvt_types_choices.specs.Sets.{word_count}
use Rattle.qvt_types_choices.proofs.class_sets.all_classes.Given as goal

abbrev pub invariant-loop-class : goal.invariant-loop-class
invariant-loop-class l = record {
  each : length l.words ≡ word_count l.count;
  marks : (d : ℕ) → is_marked (bits l.words) d ≡ (nat_lt d l.class && true);
}
