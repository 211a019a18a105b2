use Rattle.std.proofs.Common.{◌≡◌, drop}
use Rattle.qvt_conform.specs.Lacking.{faults_by}
use Rattle.qvt_conform.proofs.conform.faults.Given as goal

abbrev pub invariant-loop-i : goal.invariant-loop-i
invariant-loop-i l = record {
  rest : faults_by l.metas l.links l.containment.contents l.i (drop l.i l.objects) ≡ faults_by l.metas l.links l.containment.contents 0 l.objects;
  asked : l.asked ≡ l.metas;
}
