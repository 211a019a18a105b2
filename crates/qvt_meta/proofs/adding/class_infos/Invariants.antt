use Rattle.std.proofs.Common.{◌≡◌, ◌+◌, ◌++◌, drop}
use Rattle.qvt_metas.specs.Added.{class_infos, feature_count}
use Rattle.qvt_meta.proofs.adding.class_infos.Given as goal

abbrev pub invariant-loop-class : goal.invariant-loop-class
invariant-loop-class l = record {
  built : l.infos ++ class_infos l.begin l.names l.first (drop l.class-index l.classes) ≡ class_infos l.begin l.names l.begin.feature l.classes;
  few : l.first + feature_count (drop l.class-index l.classes) ≡ l.begin.feature + feature_count l.classes;
}
