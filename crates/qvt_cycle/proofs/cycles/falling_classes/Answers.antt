use Rattle.std.proofs.Common.{◌≡◌, true, sym, subst}
use Rattle.qvt_cycle.specs.Search.{fall}
use Rattle.qvt_cycle.proofs.Falling.{zeros_fall}
use Rattle.qvt_cycle.proofs.cycles.falling_classes.Goals as goal

pub returns : goal.returns
returns c = subst (λ classes. fall classes c.args.lists.now ≡ true) (sym c.in_ok-none.ensures) (zeros_fall c.args.lists.now)
