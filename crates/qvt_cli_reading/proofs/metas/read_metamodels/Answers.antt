use Rattle.std.proofs.Common.{◌∙◌, ap, sym, arith, subst}
use Rattle.qvt_metas.specs.Metamodels.{Metamodels}
use Rattle.qvt_outcome.specs.Chain.{folded}
use Rattle.qvt_outcome.specs.Follows.{Follows}
use Rattle.qvt_work.specs.Metas.{metamodel_read, metamodels_read}
use Rattle.qvt_program_inputs.specs.Law.{AreAllNamed}
use Rattle.qvt_outcome.proofs.Folded.{fails, goes_on, ends}
use Rattle.qvt_cli_reading.proofs.metas.read_metamodels.Goals as goal

pub loop-name-init : goal.loop-name-init
unfolding metamodels_read
loop-name-init g c = record {
  follows = λ result new h. subst (λ (m : Metamodels). Follows (λ (metas : Metamodels). metas) (folded metamodel_read m c.args.names.now) (g.F.Files.seen c.args.files.now) result new) c.new-metas.ensures h;
  element = ap (λ (m : Metamodels). m.element) c.new-metas.ensures;
  named = subst AreAllNamed (sym c.new-metas.ensures) tt;
}

pub returns-in-Err-clause-follows : goal.returns-in-Err-clause-follows
returns-in-Err-clause-follows g c = fails (λ (metas : Metamodels). metas) (λ _. c.read_metamodel.new.metas) metamodel_read c.args.names.now (metamodels_read c.args.names.now) (g.F.Files.seen c.args.files.now)
    c.loop-name.metas c.loop-name.name-index c.name-item.result (g.F.Files.seen c.loop-name.files) (g.F.Files.seen c.read_metamodel.new.files) c.in-Err.stop
    c.loop-name-test.true c.name-item.is c.loop-name.invariant.follows c.in-Err.ensures.follows

pub loop-name-preserved : goal.loop-name-preserved
loop-name-preserved g c = record {
  follows = goes_on (λ (metas : Metamodels). metas) (λ _. c.read_metamodel.new.metas) metamodel_read c.args.names.now (metamodels_read c.args.names.now) (g.F.Files.seen c.args.files.now)
      c.loop-name.metas c.loop-name.name-index c.name-item.result c.in-Ok.field-0 (g.F.Files.seen c.loop-name.files) (g.F.Files.seen c.read_metamodel.new.files)
      c.loop-name-test.true c.name-item.is c.loop-name.invariant.follows c.in-Ok.ensures.follows;
  element = c.in-Ok.ensures.element ∙ c.loop-name.invariant.element;
  named = c.in-Ok.ensures.named c.loop-name.invariant.named;
}

pub returns-clause-follows : goal.returns-clause-follows
returns-clause-follows g c = ends (λ (metas : Metamodels). metas) metamodel_read c.args.names.now (metamodels_read c.args.names.now) (g.F.Files.seen c.args.files.now)
    c.loop-name.name-index c.loop-name.metas (g.F.Files.seen c.loop-name.files) (omega arith) c.loop-name.invariant.follows
