use Rattle.std.proofs.Common.{ap, subst, sym, IfOk}
use Rattle.qvt_store.specs.Contents.{Contents}
use Rattle.qvt_outcome.specs.Follows.{Follows}
use Rattle.qvt_inputs.specs.Inputs.{inputs_read, HaveExtents, IsLoaded}
use Rattle.qvt_inputs.specs.declared.loaded.Loaded.{Loaded}
use Rattle.qvt_program_inputs.specs.Start.{program_inputs}
use Rattle.qvt_program_inputs.proofs.start.read_program_inputs.Goals as goal

pub read_inputs-requires : goal.read_inputs-requires
read_inputs-requires g c = record {
  extents = subst (λ (s : Contents). HaveExtents s c.args.inputs.now) (sym c.in-Ok.ensures.store) c.requires.extents_of;
  empty = ap (λ (s : Contents). s.objects) c.in-Ok.ensures.store;
  sound = c.in-Ok.ensures.sound;
}

pub returns-in-Ok-clause-follows : goal.returns-in-Ok-clause-follows
unfolding program_inputs
returns-in-Ok-clause-follows g c = subst (λ (s : Contents). Follows (λ (l : Loaded). l) (inputs_read s c.args.inputs.now) (g.F.Files.seen c.args.files.now) c.read_inputs.result (g.F.Files.seen c.read_inputs.new.files))
    c.in-Ok.ensures.store c.read_inputs.ensures.follows

pub returns-in-Ok-clause-loaded : goal.returns-in-Ok-clause-loaded
returns-in-Ok-clause-loaded g c = subst (λ (s : Contents). IfOk c.read_inputs.result (λ (l : Loaded). IsLoaded s l)) c.in-Ok.ensures.store c.read_inputs.ensures.loaded
