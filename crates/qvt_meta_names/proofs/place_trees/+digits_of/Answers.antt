use Rattle.std.proofs.Common.{◌≡◌, ◌∙◌, suc, ◌+◌, ap, arith}
use Rattle.qvt_meta_names.specs.Rooted.{rest_above}
use Rattle.qvt_meta_names.proofs.place_trees.+digits_of.Goals as goal

pub returns-then-number-eq0-clause-above : goal.returns-then-number-eq0-clause-above
returns-then-number-eq0-clause-above t c = c.if-number-eq0.true

pub returns-else-number-eq0-clause-above : goal.returns-else-number-eq0-clause-above
returns-else-number-eq0-clause-above t c =
    ap (λ n. rest_above n c.args.number) (let one : 1 + c.digits_of.result ≡ suc c.digits_of.result = omega arith in one) ∙ c.digits_of.ensures.above
