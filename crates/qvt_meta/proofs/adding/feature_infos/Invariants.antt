use Rattle.std.proofs.Common.{◌≡◌, ◌++◌, ◌+◌, drop}
use Rattle.qvt_metas.specs.Added.{feature_infos}
use Rattle.qvt_meta.proofs.adding.feature_infos.Given as goal

abbrev pub invariant-loop-class : goal.invariant-loop-class
invariant-loop-class l = record {
  built : l.infos ++ feature_infos l.begin l.places.enums l.classes l.owner (drop l.class-index l.classes) ≡ feature_infos l.begin l.places.enums l.classes l.begin.class l.classes;
  at : l.owner ≡ l.begin.class + l.class-index;
}
