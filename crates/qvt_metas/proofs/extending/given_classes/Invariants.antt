use Rattle.std.proofs.Common.{◌≡◌, ◌+◌, ◌++◌, ◌∷◌, drop}
use Rattle.qvt_metamodel.specs.Extended.{element_class, given_classes, given_count}
use Rattle.qvt_metas.proofs.extending.given_classes.Given as goal

abbrev pub invariant-loop-class : goal.invariant-loop-class
invariant-loop-class l = record {
  built : l.infos ++ given_classes l.metamodel l.first (drop l.class-index l.classes) ≡ element_class l.metamodel ∷ given_classes l.metamodel l.start l.classes;
  few : l.first + given_count (drop l.class-index l.classes) ≡ l.start + given_count l.classes;
}
