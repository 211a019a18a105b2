use Rattle.std.proofs.Common.{ℕ, List, subst}
use Rattle.qvt_outcome.specs.Steps.{GivesOrStops}
use Rattle.qvt_outcome.specs.Chain.{step, read_step}
use Rattle.qvt_types.specs.Program.{program_view}
use Rattle.qvt_work.specs.Run.{text_read, text_in}
use Rattle.qvt_outcome.proofs.Chained.{stopped, stepped}
use Rattle.qvt_cli_reading.proofs.job.read_text.Goals as goal

pub returns-in-Err-clause-follows : goal.returns-in-Err-clause-follows
unfolding text_read
returns-in-Err-clause-follows g c = stopped (λ (b : List ℕ). b) program_view (read_step c.args.job.now.text 262144) (λ (bytes : List ℕ). step (text_in c.args.name.now c.args.job.now c.args.metas.now bytes)) (g.F.Files.seen c.args.files.now) (g.F.Files.seen c.fetch.new.files) c.in-Err.stop c.in-Err.ensures.follows

pub returns-in-Ok-clause-follows : goal.returns-in-Ok-clause-follows
unfolding text_read
returns-in-Ok-clause-follows g c = stepped (λ (b : List ℕ). b) program_view (read_step c.args.job.now.text 262144) (λ (bytes : List ℕ). text_in c.args.name.now c.args.job.now c.args.metas.now bytes) (g.F.Files.seen c.args.files.now) (g.F.Files.seen c.fetch.new.files) c.in-Ok.bytes c.text_in.result c.in-Ok.ensures.follows (subst (λ (bytes : List ℕ). GivesOrStops program_view c.text_in.result (text_in c.args.name.now c.args.job.now c.args.metas.now bytes)) c.as_slice.ensures c.text_in.ensures.gives) c.text_in.ensures.no_reads
