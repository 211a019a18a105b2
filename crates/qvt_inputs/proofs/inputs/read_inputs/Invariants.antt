use Rattle.std.proofs.Common.{drop}
use Rattle.qvt_outcome.specs.Chain.{folded}
use Rattle.qvt_outcome.specs.Follows.{Continues}
use Rattle.qvt_inputs.specs.Inputs.{input_read, inputs_read, HaveExtents, IsLoaded}
use Rattle.qvt_inputs.specs.declared.loaded.Loaded.{Loaded}
use Rattle.qvt_inputs.proofs.inputs.read_inputs.Given as goal

abbrev pub invariant-loop-input : goal.invariant-loop-input
invariant-loop-input g l = record {
  follows : Continues (λ (x : Loaded). x) (inputs_read l.fn.store l.inputs) (g.F.Files.seen l.initial.files) (folded input_read l.loaded (drop l.input-index l.inputs)) (g.F.Files.seen l.files);
  left : HaveExtents l.loaded.store (drop l.input-index l.inputs);
  loaded : IsLoaded l.fn.store l.loaded;
}
