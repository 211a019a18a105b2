use Rattle.std.proofs.Common.{◌+◌, ◌≤◌, length, arith}
use Rattle.qvt_rows.proofs.SetWords.{union}
use Rattle.qvt_rows.proofs.sets.united.Goals as goal

pub returns-clause-marks : goal.returns-clause-marks
returns-clause-marks c =
    let over : c.max-end.result ≤ c.loop-place.place = omega (arith, c.loop-place-test.false) in
    let one_end : c.args.one.now.skipped + length c.args.one.now.words ≤ c.first_word-first.result + length c.loop-place.words = omega (arith, c.loop-place.invariant.each, over, c.max-end.ensures, c.end_of.ensures) in
    let other_end : c.args.other.now.skipped + length c.args.other.now.words ≤ c.first_word-first.result + length c.loop-place.words = omega (arith, c.loop-place.invariant.each, over, c.max-end.ensures, c.end_of-2.ensures) in
    union c.args.one.now c.args.other.now c.first_word-first.result c.loop-place.words c.requires.one.start c.requires.other.start
    (λ h. omega (arith, c.first_word-first.ensures.number, c.first_word.ensures.first h)) (λ h. omega (arith, c.first_word-first.ensures.first h)) one_end other_end c.loop-place.invariant.words
