use Rattle.std.proofs.Common.{◌≡◌, ◌+◌, ◌++◌, drop}
use Rattle.qvt_metas.specs.Added.{feature_count}
use Rattle.qvt_meta.specs.Places.{firsts_of}
use Rattle.qvt_meta.proofs.adding.firsts.Given as goal

abbrev pub invariant-loop-class : goal.invariant-loop-class
invariant-loop-class l = record {
  built : l.firsts ++ firsts_of l.count (drop l.class-index l.classes) ≡ firsts_of 0 l.classes;
  few : l.count + feature_count (drop l.class-index l.classes) ≡ feature_count l.classes;
}
