use Rattle.std.proofs.Common.{◌≡◌, length}
use Rattle.qvt_types_choices.specs.ByClass.{AreKnown}
use Rattle.qvt_types_choices.proofs.class_choices.tell_all.Given as goal

abbrev pub invariant-loop-class : goal.invariant-loop-class
invariant-loop-class l = record {
  each : length l.known ≡ length l.initial.known;
  known : AreKnown l.metas l.units l.group l.known;
}
