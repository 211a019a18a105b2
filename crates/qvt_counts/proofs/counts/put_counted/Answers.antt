use Rattle.std.proofs.Common.{◌∙◌, ◌<◌, length, get_or, ◌||◌, ◌&&◌, ap, arith}
use Rattle.std.specs.Prelude.{bit_and, bit_or}
use Rattle.qvt_metamodel.specs.Kept.{is_bit}
use Rattle.qvt_metamodel.proofs.Bools.{ap2}
use Rattle.qvt_rows.proofs.SetWords.{bit_of_union, no_word_before, no_word_behind}
use Rattle.qvt_counts.proofs.Changed.{none_changed, next_changed, all_changed}
use Rattle.qvt_counts.proofs.Counting.{bit_of_both}
use Rattle.qvt_counts.proofs.Counted.{PutMore, none_put, put_at}
use Rattle.qvt_counts.proofs.counts.put_counted.Goals as goal

pub loop-place-init : goal.loop-place-init
loop-place-init c = none_changed 0 (PutMore c.args.set.now c.args.counts.now c.args.count) c.args.words.now c.args.set.now.skipped (λ n l. none_put c.args.set.now c.args.counts.now c.args.count n (no_word_before c.args.set.now n l))

pub loop-place-preserved : goal.loop-place-preserved
loop-place-preserved c =
    let low : c.loop-place.place < length c.loop-place.words = omega (arith, c.loop-place-test.true, c.min-place-end.ensures, c.requires.each, c.loop-place.invariant.each) in
    next_changed 0 (PutMore c.args.set.now c.args.counts.now c.args.count) c.args.words.now c.loop-place.words c.set.new.self c.loop-place.place _ low c.set.ensures
    (λ k l.
    let at = c.loop-place.place in
    ap (λ ws. is_bit (bit_or (get_or ws at 0) (bit_and c.word_of.result c.where_count.result)) k) c.as_slice.ensures
    ∙ bit_of_union (get_or c.loop-place.words at 0) (bit_and c.word_of.result c.where_count.result) k
    ∙ ap (λ b. is_bit (get_or c.loop-place.words at 0) k || b)
    (bit_of_both c.word_of.result c.where_count.result k ∙ ap2 (λ a b. a && b) (ap (λ w. is_bit w k) c.word_of.ensures) (c.where_count.ensures k l)))
    c.loop-place.invariant

pub returns-clause-marks : goal.returns-clause-marks
returns-clause-marks c =
    put_at c.args.set.now c.args.counts.now c.args.count c.args.words.now c.loop-place.words c.requires.set.start
    (λ n l. all_changed 0 (PutMore c.args.set.now c.args.counts.now c.args.count) c.args.words.now c.loop-place.words c.loop-place.place c.loop-place.invariant n l
    (λ past. none_put c.args.set.now c.args.counts.now c.args.count n (no_word_behind c.args.set.now n (omega (arith, past, l, c.loop-place-test.false, c.min-place-end.ensures, c.requires.each, c.end_of-end.ensures)))))
