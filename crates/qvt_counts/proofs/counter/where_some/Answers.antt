use Rattle.std.proofs.Common.{◌∙◌}
use Rattle.qvt_counts.specs.Counts.{counted, digits}
use Rattle.qvt_counts.proofs.Counting.{seven_or, some_is}
use Rattle.qvt_counts.proofs.counter.where_some.Goals as goal

pub returns : goal.returns
unfolding counted
returns c = λ k.
    let counter = c.args.counter.now in
    seven_or counter.ones counter.twos counter.fours counter.eights counter.sixteens counter.thirty_twos counter.sixty_fours k
    ∙ some_is (digits counter k)
