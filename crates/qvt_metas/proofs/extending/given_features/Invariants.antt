use Rattle.std.proofs.Common.{◌≡◌, ◌++◌, ◌+◌, drop}
use Rattle.qvt_metamodel.specs.Extended.{given_features}
use Rattle.qvt_metas.proofs.extending.given_features.Given as goal

abbrev pub invariant-loop-class : goal.invariant-loop-class
invariant-loop-class l = record {
  built : l.infos ++ given_features l.owner (drop l.class-index l.classes) ≡ given_features l.start l.classes;
  at : l.owner ≡ l.start + l.class-index;
}
