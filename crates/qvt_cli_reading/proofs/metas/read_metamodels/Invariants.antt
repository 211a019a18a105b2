use Rattle.std.proofs.Common.{◌≡◌, drop, None}
use Rattle.qvt_metas.specs.Metamodels.{Metamodels}
use Rattle.qvt_outcome.specs.Chain.{folded}
use Rattle.qvt_outcome.specs.Follows.{Continues}
use Rattle.qvt_work.specs.Metas.{metamodel_read, metamodels_read}
use Rattle.qvt_program_inputs.specs.Law.{AreAllNamed}
use Rattle.qvt_cli_reading.proofs.metas.read_metamodels.Given as goal

abbrev pub invariant-loop-name : goal.invariant-loop-name
invariant-loop-name g l = record {
  follows : Continues (λ (metas : Metamodels). metas) (metamodels_read l.names) (g.F.Files.seen l.initial.files) (folded metamodel_read l.metas (drop l.name-index l.names)) (g.F.Files.seen l.files);
  element : l.metas.element ≡ None;
  named : AreAllNamed l.metas;
}
