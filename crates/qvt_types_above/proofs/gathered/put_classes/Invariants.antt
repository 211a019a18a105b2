use Rattle.std.proofs.Common.{◌≡◌, drop}
use Rattle.qvt_types_above.specs.Gathered.{put_classes, AreThere}
use Rattle.qvt_types_above.proofs.gathered.put_classes.Given as goal

abbrev pub invariant-loop-class : goal.invariant-loop-class
invariant-loop-class l = record {
  numbers : put_classes l.lists l.row l.numbers (drop l.class-index l.classes) ≡ put_classes l.lists l.row l.fn.numbers l.classes;
  seen : AreThere l.numbers l.seen;
}
