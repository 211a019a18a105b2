use Rattle.std.proofs.Common.{◌≡◌, map, take}
use Rattle.qvt_exec_resolves.specs.declared.disjuncts.Turn.TheVariants.{Open}
use Rattle.qvt_exec_resolves.proofs.disjuncts.waiting.Given as goal

abbrev pub invariant-loop-mapping : goal.invariant-loop-mapping
invariant-loop-mapping l = l.turns ≡ map (λ k. Open k l.depth) (take l.mapping-index l.mappings)
