use Rattle.qvt_model.specs.Reading.{model_of}
use Rattle.qvt_model.specs.declared.data.ModelFault.TheVariants as model
use Rattle.qvt_outcome.specs.declared.refusal.Refusal.TheVariants as refusal
use Rattle.qvt_outcome.proofs.Refused.{stops_by}
use Rattle.qvt_inputs.specs.Conforming.{model_in, conforming}
use Rattle.qvt_inputs.proofs.conforming.model_in.Goals as goal

pub returns-in-Err-clause-gives : goal.returns-in-Err-clause-gives
unfolding model_in
returns-in-Err-clause-gives c = stops_by model.NoMemory refusal.Model c.args.name.now c.in-Err.why c.model_stop.result (model_of c.args.metas.now c.args.metamodel c.args.bytes.now) (conforming c.args.metas.now c.args.before c.args.name.now) c.model_stop.ensures.stop c.in-Err.ensures.data
