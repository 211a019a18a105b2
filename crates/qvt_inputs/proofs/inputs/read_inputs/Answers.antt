use Rattle.std.proofs.Common.{◌≡◌, arith, subst, []}
use Rattle.qvt_outcome.specs.Chain.{folded}
use Rattle.qvt_outcome.specs.Follows.{Follows}
use Rattle.qvt_outcome.proofs.Folded.{fails, goes_on, ends}
use Rattle.qvt_inputs.specs.Inputs.{input_read, inputs_read}
use Rattle.qvt_inputs.specs.declared.loaded.Loaded.{Loaded}
use Rattle.qvt_inputs.proofs.Loads.{begins, first_of, next_of}
use Rattle.qvt_inputs.proofs.inputs.read_inputs.Goals as goal

pub loop-input-init : goal.loop-input-init
unfolding inputs_read
loop-input-init g c =
    let none : c.new.result ≡ [] = c.new.ensures in
    record {
      follows = λ result new h. subst (λ ids. Follows (λ (x : Loaded). x) (folded input_read (record { store = c.args.store; ids = ids }) c.args.inputs.now) (g.F.Files.seen c.args.files.now) result new) none h;
      left = c.requires.extents;
      loaded = begins c.args.store c.new.result none c.requires.empty c.requires.sound (c.stays_is_reflexive.ensures c.args.store);
    }

pub read_input-requires : goal.read_input-requires
read_input-requires g c = record { extent = (first_of c.loop-input.loaded.store c.args.inputs.now c.loop-input.input-index c.input-item.result c.loop-input-test.true c.input-item.is c.loop-input.invariant.left).0 }

pub returns-in-Err-clause-follows : goal.returns-in-Err-clause-follows
returns-in-Err-clause-follows g c = fails (λ (x : Loaded). x) (λ _. c.read_input.new.loaded) input_read c.args.inputs.now (inputs_read c.args.store c.args.inputs.now) (g.F.Files.seen c.args.files.now)
    c.loop-input.loaded c.loop-input.input-index c.input-item.result (g.F.Files.seen c.loop-input.files) (g.F.Files.seen c.read_input.new.files) c.in-Err.stop
    c.loop-input-test.true c.input-item.is c.loop-input.invariant.follows c.in-Err.ensures.follows

pub loop-input-preserved : goal.loop-input-preserved
loop-input-preserved g c = record {
  follows = goes_on (λ (x : Loaded). x) (λ _. c.read_input.new.loaded) input_read c.args.inputs.now (inputs_read c.args.store c.args.inputs.now) (g.F.Files.seen c.args.files.now)
      c.loop-input.loaded c.loop-input.input-index c.input-item.result c.in-Ok.field-0 (g.F.Files.seen c.loop-input.files) (g.F.Files.seen c.read_input.new.files)
      c.loop-input-test.true c.input-item.is c.loop-input.invariant.follows c.in-Ok.ensures.follows;
  left = next_of c.loop-input.loaded.store c.read_input.new.loaded.store c.args.inputs.now c.loop-input.input-index c.input-item.result c.loop-input-test.true c.input-item.is
      c.loop-input.invariant.left c.in-Ok.ensures.stays c.in-Ok.ensures.others;
  loaded = c.in-Ok.ensures.keeps c.args.store c.loop-input.invariant.loaded;
}

pub returns-clause-follows : goal.returns-clause-follows
returns-clause-follows g c = ends (λ (x : Loaded). x) input_read c.args.inputs.now (inputs_read c.args.store c.args.inputs.now) (g.F.Files.seen c.args.files.now)
    c.loop-input.input-index c.loop-input.loaded (g.F.Files.seen c.loop-input.files) (omega arith) c.loop-input.invariant.follows
