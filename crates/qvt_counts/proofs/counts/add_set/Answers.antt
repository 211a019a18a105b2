use Rattle.std.proofs.Common.{◌∙◌, ◌+◌, ◌<◌, length, get_or, sym, subst, arith}
use Rattle.qvt_metamodel.specs.Kept.{is_bit}
use Rattle.qvt_rows.proofs.SetWords.{no_word_before, no_word_behind}
use Rattle.qvt_counts.specs.Counts.{counted, no_counter, one}
use Rattle.qvt_counts.proofs.Changed.{none_changed, next_changed, all_changed}
use Rattle.qvt_counts.proofs.Counted.{OneMore, none_more, more_at}
use Rattle.qvt_counts.proofs.counts.add_set.Goals as goal

pub loop-place-init : goal.loop-place-init
loop-place-init c = none_changed no_counter (OneMore c.args.set.now) c.args.counts.now c.args.set.now.skipped (λ n l. none_more c.args.set.now n (no_word_before c.args.set.now n l))

pub loop-place-preserved : goal.loop-place-preserved
loop-place-preserved c =
    let low : c.loop-place.place < length c.loop-place.counts = omega (arith, c.loop-place-test.true, c.min-place-end.ensures, c.len.ensures, c.loop-place.invariant.each) in
    next_changed no_counter (OneMore c.args.set.now) c.args.counts.now c.loop-place.counts c.set.new.self c.loop-place.place c.with_word-counter.result low c.set.ensures
    (λ k l.
    let at = c.loop-place.place in
    c.with_word-counter.ensures k (subst (λ cs. counted (get_or cs at no_counter) k < 127) (sym c.as_slice.ensures) l)
    ∙ (λ i. counted (get_or (c.as_slice.ensures i) at no_counter) k + one (is_bit (c.word_of.ensures i) k)))
    c.loop-place.invariant

pub returns-clause-counts : goal.returns-clause-counts
returns-clause-counts c =
    more_at c.args.set.now c.args.counts.now c.loop-place.counts c.requires.start
    (λ n l. all_changed no_counter (OneMore c.args.set.now) c.args.counts.now c.loop-place.counts c.loop-place.place c.loop-place.invariant n l
    (λ past. none_more c.args.set.now n (no_word_behind c.args.set.now n (omega (arith, past, l, c.loop-place-test.false, c.min-place-end.ensures, c.len.ensures, c.end_of-end.ensures)))))
