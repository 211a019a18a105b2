use Rattle.std.proofs.Common.{◌≡◌, ◌+◌, ◌<◌, ◌^◌, ◌++◌, drop, map}
use Rattle.std.specs.List.{AllByRecursion}
use Rattle.qvt_metas.proofs.joining.ranks_on.Given as goal

abbrev pub invariant-loop-rank : goal.invariant-loop-rank
invariant-loop-rank l = record {
  built : l.all ++ map (λ r. l.begin.class + r) (drop l.rank-index l.ranks) ≡ map (λ r. l.begin.class + r) l.ranks;
  few : AllByRecursion (λ r. l.begin.class + r < 2 ^ 32) (drop l.rank-index l.ranks);
}
