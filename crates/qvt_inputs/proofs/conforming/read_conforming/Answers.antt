use Rattle.std.proofs.Common.{ℕ, List, subst}
use Rattle.qvt_model.specs.declared.data.ModelData.{ModelData}
use Rattle.qvt_outcome.specs.Steps.{GivesOrStops}
use Rattle.qvt_outcome.specs.Chain.{step, read_step}
use Rattle.qvt_outcome.proofs.Chained.{stopped, stepped}
use Rattle.qvt_inputs.specs.Conforming.{model_read, model_in}
use Rattle.qvt_inputs.proofs.conforming.read_conforming.Goals as goal

pub returns-in-Err-clause-follows : goal.returns-in-Err-clause-follows
unfolding model_read
returns-in-Err-clause-follows g c = stopped (λ (b : List ℕ). b) (λ (m : ModelData). m.objects) (read_step c.args.name.now 16777216)
    (λ (bytes : List ℕ). step (model_in c.args.metas.now c.args.metamodel c.args.before c.args.name.now bytes)) (g.F.Files.seen c.args.files.now) (g.F.Files.seen c.fetch.new.files) c.in-Err.stop c.in-Err.ensures.follows

pub returns-in-Ok-clause-follows : goal.returns-in-Ok-clause-follows
unfolding model_read
returns-in-Ok-clause-follows g c = stepped (λ (b : List ℕ). b) (λ (m : ModelData). m.objects) (read_step c.args.name.now 16777216)
    (λ (bytes : List ℕ). model_in c.args.metas.now c.args.metamodel c.args.before c.args.name.now bytes) (g.F.Files.seen c.args.files.now) (g.F.Files.seen c.fetch.new.files) c.in-Ok.bytes c.model_in.result c.in-Ok.ensures.follows
    (subst (λ (bytes : List ℕ). GivesOrStops (λ (m : ModelData). m.objects) c.model_in.result (model_in c.args.metas.now c.args.metamodel c.args.before c.args.name.now bytes)) c.as_slice.ensures c.model_in.ensures.gives) c.model_in.ensures.no_reads
