use Rattle.std.proofs.Common.{◌∙◌, not, ap, sym}
use Rattle.std.specs.Prelude.{if◌then◌else◌}
use Rattle.qvt_metamodel.specs.Kept.{is_bit}
use Rattle.qvt_counts.proofs.Counting.{bit_of_none, not_odd}
use Rattle.qvt_counts.proofs.counter.same_digit.Goals as goal

pub returns-else-number-eq1 : goal.returns-else-number-eq1
returns-else-number-eq1 c = λ k l.
    bit_of_none c.args.digit k c.ranges.digit.fits l
    ∙ sym (ap (λ s. if s then is_bit c.args.digit k else not (is_bit c.args.digit k)) (not_odd c.args.number c.if-number-eq1.false))
