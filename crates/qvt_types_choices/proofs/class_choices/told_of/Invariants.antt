use Rattle.std.proofs.Common.{◌≡◌, ◌&&◌, ◌||◌, drop, None}
use Rattle.qvt_types_choices.specs.ByClass.{are_known, chosens, some_unclear}
use Rattle.qvt_types_choices.specs.Only.{least_from}
use Rattle.qvt_types_choices.proofs.class_choices.told_of.Given as goal

abbrev pub invariant-loop-class : goal.invariant-loop-class
invariant-loop-class l = record {
  each : (l.told.is_each && are_known l.known (drop l.class-index l.classes)) ≡ are_known l.known l.classes;
  unclear : (l.told.is_unclear || some_unclear l.known (drop l.class-index l.classes)) ≡ some_unclear l.known l.classes;
  least : least_from l.metas l.units l.told.least (chosens l.known (drop l.class-index l.classes)) ≡ least_from l.metas l.units None (chosens l.known l.classes);
}
