use Rattle.std.proofs.Common.{◌≡◌, ◌++◌, drop, map}
use Rattle.qvt_metamodel.specs.Joined.{class_on, ClassesFit}
use Rattle.qvt_metas.proofs.joining.classes_on.Given as goal

abbrev pub invariant-loop-class : goal.invariant-loop-class
invariant-loop-class l = record {
  built : l.numbers ++ map (class_on l.begin) (drop l.class-index l.classes) ≡ map (class_on l.begin) l.classes;
  few : ClassesFit l.begin (drop l.class-index l.classes);
}
