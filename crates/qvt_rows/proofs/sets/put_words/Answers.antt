use Rattle.std.proofs.Common.{◌∙◌, ◌-◌, set, sym, arith}
use Rattle.std.specs.Prelude.{bit_or}
use Rattle.qvt_rows.proofs.SetWords.{united_none, united_next, put_all}
use Rattle.qvt_rows.proofs.sets.put_words.Goals as goal

pub loop-place-init : goal.loop-place-init
loop-place-init c = record { united = united_none c.args.row.now c.args.other.now c.requires.row.start; most = omega arith }

pub loop-place-preserved : goal.loop-place-preserved
loop-place-preserved c = record {
  united = united_next c.args.row.now c.args.other.now c.loop-place.row c.set.new.self c.loop-place.place
      (omega (arith, c.loop-place.auto.place, c.loop-place.invariant.united.first, c.requires.first))
      (omega (arith, c.loop-place-test.true, c.min-place-end.ensures, c.end_of.ensures, c.requires.end, c.loop-place.invariant.united.each, c.loop-place.invariant.united.first))
      (c.set.ensures ∙ (λ i. set c.loop-place.row.words (c.loop-place.place - c.loop-place.row.skipped) (bit_or (c.word_of.ensures i) (c.word_of-in-loop-place.ensures i))))
      c.loop-place.invariant.united;
  most = omega (arith, c.loop-place-test.true, c.min-place-end.ensures);
}

pub returns-clause-words : goal.returns-clause-words
returns-clause-words c = record {
  start = c.loop-place.invariant.united.start ∙ sym c.requires.row.start;
  words = put_all c.args.row.now c.args.other.now c.loop-place.row c.loop-place.place c.args.end
      (omega (arith, c.loop-place-test.false, c.min-place-end.ensures, c.end_of.ensures)) c.loop-place.invariant.most c.loop-place.invariant.united;
}
