use Rattle.std.proofs.Common.{Ok, Err, subst}
use Rattle.qvt_metas.specs.Metamodels.{Metamodels}
use Rattle.qvt_work.specs.Metas.{no_metamodels, metamodel_read}
use Rattle.qvt_outcome.specs.Plans.{outcome_of}
use Rattle.qvt_work.specs.Check.{check_of, after_metamodel}
use Rattle.qvt_outcome.specs.Follows.{Follows}
use Rattle.qvt_outcome.proofs.Chained.{stopped, chained}
use Rattle.qvt_cli_reading.proofs.check.perform_check.Goals as goal

pub returns-in-Err-clause-follows : goal.returns-in-Err-clause-follows
unfolding check_of
returns-in-Err-clause-follows g c = stopped (λ _. c.read_metamodel.new.metas) outcome_of (metamodel_read no_metamodels c.args.metamodel.now) (after_metamodel c.args.model.now) (g.F.Files.seen c.args.files.now) (g.F.Files.seen c.read_metamodel.new.files) c.in-Err.stop
    (subst (λ (m : Metamodels). Follows (λ _. c.read_metamodel.new.metas) (metamodel_read m c.args.metamodel.now) (g.F.Files.seen c.args.files.now) (Err c.in-Err.stop) (g.F.Files.seen c.read_metamodel.new.files)) c.new-metas.ensures c.in-Err.ensures.follows)

pub returns-clause-follows : goal.returns-clause-follows
unfolding check_of
returns-clause-follows g c = chained (λ _. c.read_metamodel.new.metas) outcome_of (metamodel_read no_metamodels c.args.metamodel.now) (after_metamodel c.args.model.now) (g.F.Files.seen c.args.files.now) (g.F.Files.seen c.read_metamodel.new.files) (g.F.Files.seen c.check_model.new.files) c.in-Ok.field-0 c.check_model.result
    (subst (λ (m : Metamodels). Follows (λ _. c.read_metamodel.new.metas) (metamodel_read m c.args.metamodel.now) (g.F.Files.seen c.args.files.now) (Ok c.in-Ok.field-0) (g.F.Files.seen c.read_metamodel.new.files)) c.new-metas.ensures c.in-Ok.ensures.follows) c.check_model.ensures.follows
