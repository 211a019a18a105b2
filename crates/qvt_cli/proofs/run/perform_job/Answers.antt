use Rattle.std.proofs.Common.{ℕ, List, subst, Ok, Err}
use Rattle.qvt_metas.specs.Metamodels.{Metamodels}
use Rattle.qvt_outcome.specs.Follows.{Follows}
use Rattle.qvt_work.specs.Metas.{metamodels_read}
use Rattle.qvt_outcome.specs.Plans.{outcome_of}
use Rattle.qvt_work.specs.Run.{after_job, after_metas}
use Rattle.qvt_outcome.proofs.Chained.{stopped, chained}
use Rattle.qvt_work.specs.Conforming.{AfterJobConforms, AfterMetasConforms}
use Rattle.qvt_cli.proofs.Conforming.{chained_conforms}
use Rattle.qvt_cli.proofs.run.perform_job.Goals as goal

pub returns-in-Err-clause-follows : goal.returns-in-Err-clause-follows
unfolding after_job
returns-in-Err-clause-follows g c = stopped (λ (metas : Metamodels). metas) outcome_of (metamodels_read c.args.job.now.metamodels) (after_metas c.args.name.now c.args.job.now) (g.F.Files.seen c.args.files.now) (g.F.Files.seen c.read_metamodels.new.files) c.in-Err.stop
    (subst (λ (names : List (List ℕ)). Follows (λ (metas : Metamodels). metas) (metamodels_read names) (g.F.Files.seen c.args.files.now) (Err c.in-Err.stop) (g.F.Files.seen c.read_metamodels.new.files)) c.as_slice.ensures c.in-Err.ensures.follows)

pub returns-in-Ok-clause-follows : goal.returns-in-Ok-clause-follows
unfolding after_job
returns-in-Ok-clause-follows g c = chained (λ (metas : Metamodels). metas) outcome_of (metamodels_read c.args.job.now.metamodels) (after_metas c.args.name.now c.args.job.now) (g.F.Files.seen c.args.files.now) (g.F.Files.seen c.read_metamodels.new.files) (g.F.Files.seen c.perform_with_metas.new.files) c.in-Ok.metas c.perform_with_metas.result
    (subst (λ (names : List (List ℕ)). Follows (λ (metas : Metamodels). metas) (metamodels_read names) (g.F.Files.seen c.args.files.now) (Ok c.in-Ok.metas) (g.F.Files.seen c.read_metamodels.new.files)) c.as_slice.ensures c.in-Ok.ensures.follows) c.perform_with_metas.ensures.follows

pub returns-in-Ok-clause-conform : goal.returns-in-Ok-clause-conform
unfolding AfterJobConforms
returns-in-Ok-clause-conform g c = chained_conforms (λ (metas : Metamodels). metas) (metamodels_read c.args.job.now.metamodels) (AfterMetasConforms c.args.name.now c.args.job.now) c.perform_with_metas.result (g.F.Files.seen c.args.files.now) (g.F.Files.seen c.read_metamodels.new.files) c.in-Ok.metas
    (subst (λ (names : List (List ℕ)). Follows (λ (metas : Metamodels). metas) (metamodels_read names) (g.F.Files.seen c.args.files.now) (Ok c.in-Ok.metas) (g.F.Files.seen c.read_metamodels.new.files)) c.as_slice.ensures c.in-Ok.ensures.follows)
    c.perform_with_metas.ensures.conform
