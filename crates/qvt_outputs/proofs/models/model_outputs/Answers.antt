use Rattle.qvt_job.specs.declared.job.JobModel.{JobModel}
use Rattle.qvt_outputs.specs.Conforming.{IsOutput}
use Rattle.qvt_outputs.proofs.Conforms.{all_more}
use Rattle.qvt_outputs.proofs.Filed.{one_file, one_ready}
use Rattle.qvt_outputs.proofs.models.model_outputs.Goals as goal

pub loop-model-preserved : goal.loop-model-preserved
loop-model-preserved c = record {
  files = one_file c.args.store.now c.args.models.now c.loop-model.model-index c.model-item.result c.loop-model.outputs c.push.new.self c.in_ok-model_output.field-0
      c.loop-model-test.true c.model-item.is c.in_ok-model_output.ensures.file c.in_ok-push.ensures.ok c.loop-model.invariant.files;
  there = all_more (λ (o : JobModel). IsOutput c.args.store.now o.model) c.args.models.now c.loop-model.model-index c.model-item.result c.model-item.result c.loop-model-test.true c.model-item.is c.in_ok-model_output.ensures.there c.loop-model.invariant.there;
  ready = one_ready c.loop-model.outputs c.push.new.self c.in_ok-model_output.field-0 c.in_ok-push.ensures.ok c.loop-model.invariant.ready c.in_ok-model_output.ensures.ready;
}
