use Rattle.std.proofs.Common.{arith, drop, length, take, ◌-◌}
use Rattle.std.proofs.lemmas.List.{take_rest}
use Rattle.qvt_outcome.proofs.Sent.{next_piece, cut_piece}
use Rattle.qvt_outcome.proofs.report.send.Goals as goal

pub returns-in-Failed : goal.returns-in-Failed
returns-in-Failed g c = cut_piece (g.S.Sink.seen c.args.out.now) (g.S.Sink.seen c.loop-at.out) (g.S.Sink.seen c.write.new.self) c.loop-at.at c.args.text.now _ c.loop-at.invariant.1 c.in-Failed.ensures

pub loop-at-preserved : goal.loop-at-preserved
loop-at-preserved g c = (
  grind (arith, take_rest, c.in-Taken.ensures.part.0),
  next_piece (g.S.Sink.seen c.args.out.now) (g.S.Sink.seen c.loop-at.out) (g.S.Sink.seen c.write.new.self) c.loop-at.at c.in-Taken.count c.args.text.now
      (take (length c.args.text.now - c.loop-at.at) (drop c.loop-at.at c.args.text.now)) (take_rest c.args.text.now c.loop-at.at) c.loop-at.invariant.1 c.in-Taken.ensures,
)
