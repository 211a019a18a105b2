use Rattle.std.proofs.Common.{◌≡◌, ◌++◌, drop, map}
use Rattle.std.specs.List.{AllByRecursion}
use Rattle.qvt_metamodel.specs.Joined.{class_info_on, ClassFits}
use Rattle.qvt_metas.proofs.joining.class_infos_on.Given as goal

abbrev pub invariant-loop-class : goal.invariant-loop-class
invariant-loop-class l = record {
  built : l.infos ++ map (class_info_on l.begin) (drop l.class-index l.classes) ≡ map (class_info_on l.begin) l.classes;
  few : AllByRecursion (ClassFits l.begin) (drop l.class-index l.classes);
}
