use Rattle.std.proofs.Common.{◌≡◌, map, take}
use Rattle.std.specs.List.{AllByRecursion}
use Rattle.qvt_outcome.specs.Plans.{HaveFaultLines, files_in}
use Rattle.qvt_outputs.specs.Conforming.{IsOutput}
use Rattle.qvt_outputs.specs.Left.{model_file}
use Rattle.qvt_outputs.proofs.models.model_outputs.Given as goal

abbrev pub invariant-loop-model : goal.invariant-loop-model
invariant-loop-model l = record {
  files : files_in l.outputs ≡ map (model_file l.store) (take l.model-index l.models);
  ready : HaveFaultLines l.outputs;
  there : AllByRecursion (λ o. IsOutput l.store o.model) (take l.model-index l.models);
}
