use Rattle.std.proofs.Common.{ℕ, List, subst}
use Rattle.qvt_outcome.specs.Steps.{GivesOrStops}
use Rattle.qvt_outcome.specs.Chain.{step, read_step}
use Rattle.qvt_work.specs.Metas.{metamodel_read, metas_in}
use Rattle.qvt_outcome.proofs.Chained.{stopped, stepped}
use Rattle.qvt_cli_reading.proofs.metas.read_metamodel.Goals as goal

pub returns-in-Err-clause-follows : goal.returns-in-Err-clause-follows
unfolding metamodel_read
returns-in-Err-clause-follows g c = stopped (λ (b : List ℕ). b) (λ _. c.args.metas.now) (read_step c.args.name.now 1048576) (λ (bytes : List ℕ). step (metas_in c.args.metas.now c.args.name.now bytes)) (g.F.Files.seen c.args.files.now) (g.F.Files.seen c.fetch.new.files) c.in-Err.stop c.in-Err.ensures.follows

pub returns-in-Ok-clause-follows : goal.returns-in-Ok-clause-follows
unfolding metamodel_read
returns-in-Ok-clause-follows g c = stepped (λ (b : List ℕ). b) (λ _. c.add_bytes.new.metas) (read_step c.args.name.now 1048576) (λ (bytes : List ℕ). metas_in c.args.metas.now c.args.name.now bytes) (g.F.Files.seen c.args.files.now) (g.F.Files.seen c.fetch.new.files) c.in-Ok.bytes c.add_bytes.result c.in-Ok.ensures.follows (subst (λ (bytes : List ℕ). GivesOrStops (λ _. c.add_bytes.new.metas) c.add_bytes.result (metas_in c.args.metas.now c.args.name.now bytes)) c.as_slice.ensures c.add_bytes.ensures.gives) c.add_bytes.ensures.no_reads
