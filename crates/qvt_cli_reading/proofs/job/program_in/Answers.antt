use Rattle.std.proofs.Common.{◌∙◌, ap, sym}
use Rattle.qvt_tree_types.specs.Module.{module_view}
use Rattle.qvt_types.specs.Program.{program_view}
use Rattle.qvt_job.specs.Parameters.{mismatch}
use Rattle.qvt_typing.specs.Accepts.{accepts}
use Rattle.qvt_work.specs.Typing.{typed_in}
use Rattle.qvt_cli_reading.proofs.Typings.{not_refused}
use Rattle.qvt_cli_reading.proofs.job.program_in.Goals as goal

pub returns-in-None-clause-loads : goal.returns-in-None-clause-loads
unfolding typed_in
returns-in-None-clause-loads c = c.job_can_load.ensures c.args.job.now c.args.metas.now (module_view c.args.tree.now) (program_view c.in-Ok.program) (record {
  metamodels = c.requires.metamodels;
  inputs = c.requires.named.0;
  outputs = c.requires.named.1;
  accepted = not_refused c.args.job.now.text (accepts c.args.metas.now (module_view c.args.tree.now)) (program_view c.in-Ok.program) c.in-Ok.ensures.gives;
  models = sym (ap (mismatch c.args.job.now) c.as_slice.ensures) ∙ sym c.in-None.ensures;
})
