use Rattle.std.proofs.Common.{◌≡◌, ◌∙◌, ap, arith}
use Rattle.qvt_metamodel.specs.Kept.{is_bit}
use Rattle.qvt_metamodel.proofs.Rows.{no_bit}
use Rattle.qvt_counts.specs.Counts.{counted, one}
use Rattle.qvt_counts.proofs.Counting.{one_few, one_none}
use Rattle.qvt_counts.proofs.counter.with_word.Goals as goal

pub returns-then-carry-eq0 : goal.returns-then-carry-eq0
unfolding counted
returns-then-carry-eq0 c = λ k l.
    let none : one (is_bit c.sum-ones.result.1 k) ≡ 0 = ap (λ w. one (is_bit w k)) c.if-carry-eq0.true ∙ ap one (no_bit k) ∙ one_none in
    omega (arith, none, c.sum-ones.ensures k)

pub returns : goal.returns
unfolding counted
returns c = λ k l. omega (arith, l, one_few (is_bit c.args.word k), c.sum-ones.ensures k, c.sum-twos.ensures k, c.sum-fours.ensures k, c.sum-eights.ensures k, c.sum-sixteens.ensures k, c.sum-thirty_twos.ensures k, c.sum-sixty_fours.ensures k)
