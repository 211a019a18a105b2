use Rattle.std.proofs.Common.{◌≡◌, [], subst, IfOk, length}
use Rattle.qvt_model.specs.declared.data.ModelData.{ModelData}
use Rattle.qvt_outcome.specs.Chain.{step}
use Rattle.qvt_outcome.specs.Outcome.{done, conforms_line}
use Rattle.qvt_outcome.specs.Plans.{outcome_of}
use Rattle.qvt_outcome.proofs.Chained.{stopped, stepped}
use Rattle.qvt_outcome.proofs.Refused.{planned, planned_quiet}
use Rattle.qvt_inputs.specs.Conforming.{model_read}
use Rattle.qvt_work.specs.Check.{after_metamodel, conforms}
use Rattle.qvt_cli_reading.proofs.check.check_model.Goals as goal

pub returns-in-Err-clause-follows : goal.returns-in-Err-clause-follows
unfolding after_metamodel
returns-in-Err-clause-follows g c = stopped (λ (m : ModelData). m.objects) outcome_of (model_read c.args.metas.now 0 0 c.args.model.now) (λ os. step (conforms os))
    (g.F.Files.seen c.args.files.now) (g.F.Files.seen c.read_conforming.new.files) c.in-Err.stop c.in-Err.ensures.follows

pub returns-in-Ok-clause-follows : goal.returns-in-Ok-clause-follows
unfolding after_metamodel
returns-in-Ok-clause-follows g c = stepped (λ (m : ModelData). m.objects) outcome_of (model_read c.args.metas.now 0 0 c.args.model.now) conforms
    (g.F.Files.seen c.args.files.now) (g.F.Files.seen c.read_conforming.new.files) c.in-Ok.read c.plan_of.result c.in-Ok.ensures.follows
    (planned c.plan_of.result (done [] (conforms_line (length c.in-Ok.read.objects)))
    (subst (λ n. IfOk c.plan_of.result (λ p. outcome_of p ≡ done [] (conforms_line n))) c.len.ensures c.plan_of.ensures.plan) c.plan_of.ensures.memory)
    (planned_quiet c.plan_of.result c.plan_of.ensures.memory)
