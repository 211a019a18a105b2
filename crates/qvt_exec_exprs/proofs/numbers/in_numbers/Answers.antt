use Rattle.std.proofs.Common.{refl}
use Rattle.qvt_exec_state.specs.Runs.{seen}
use Rattle.qvt_exec_exprs.proofs.numbers.in_numbers.Goals as goal

pub returns-then-charged : goal.returns-then-charged
returns-then-charged c = λ u. c.in_ok-value.ensures (c.args.x.now, u) (seen c.args.state.now) (seen c.charged.new.state) refl (c.charged.ensures.yes c.if-charged.true)
