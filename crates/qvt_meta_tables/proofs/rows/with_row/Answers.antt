use Rattle.std.proofs.Common.{◌+◌, ◌<◌, ◌≤◌, ◌/◌, length, refl, arith}
use Rattle.qvt_meta_tables.proofs.Words.{joined_marks, joined_words}
use Rattle.qvt_meta_tables.proofs.rows.with_row.Goals as goal

pub returns-clause-marks : goal.returns-clause-marks
returns-clause-marks c =
    let low : c.first_word-first.result ≤ c.args.class / 64 = omega (arith, c.first_word-first.ensures.number, c.first_word.ensures.number) in
    let over : c.max-end.result ≤ c.loop-number.number = omega (arith, c.loop-number-test.false) in
    let high : c.args.class / 64 < c.first_word-first.result + length c.loop-number.words = omega (arith, c.loop-number.invariant.each, over, c.max.ensures, c.max-end.ensures) in
    let row_end : c.args.row.now.skipped + length c.args.row.now.words ≤ c.first_word-first.result + length c.loop-number.words = omega (arith, c.loop-number.invariant.each, over, c.max.ensures, c.max-end.ensures, c.end_of.ensures) in
    let other_end : c.args.other.now.skipped + length c.args.other.now.words ≤ c.first_word-first.result + length c.loop-number.words = omega (arith, c.loop-number.invariant.each, over, c.max.ensures, c.max-end.ensures, c.end_of-2.ensures) in
    joined_marks c.args.row.now c.args.other.now _ c.args.class c.requires.row.start c.requires.other.start refl
    (joined_words c.args.row.now c.args.other.now c.args.class c.first_word-first.result c.loop-number.words low high
    (λ h. omega (arith, c.first_word-first.ensures.number, c.first_word.ensures.first h)) (λ h. omega (arith, c.first_word-first.ensures.first h)) row_end other_end c.loop-number.invariant.words)
