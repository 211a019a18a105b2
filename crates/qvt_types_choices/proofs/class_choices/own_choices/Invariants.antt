use Rattle.std.proofs.Common.{◌≡◌, ◌<◌, ℕ, None, length, drop}
use Rattle.qvt_types_choices.specs.ByClass.{own, all_more, known_at}
use Rattle.qvt_types_choices.proofs.class_choices.own_choices.Given as goal

abbrev pub invariant-loop-number : goal.invariant-loop-number
invariant-loop-number l = record {
  each : length l.known ≡ l.count;
  own : (c : ℕ) → c < l.count → all_more (known_at l.known c) (own l.units (drop l.number-index l.group) c) ≡ all_more None (own l.units l.group c);
}
