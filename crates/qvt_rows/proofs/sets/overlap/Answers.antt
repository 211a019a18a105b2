use Rattle.std.proofs.Common.{refl, arith}
use Rattle.std.proofs.lemmas.Nat.{and_le_l}
use Rattle.qvt_rows.proofs.SetWords.{shared, apart}
use Rattle.qvt_rows.proofs.sets.overlap.Goals as goal

pub returns-then-word_of-ne0 : goal.returns-then-word_of-ne0
returns-then-word_of-ne0 c = (
  λ h. shared c.args.one.now c.args.other.now c.loop-place.place c.word_of.result c.word_of-in-loop-place.result c.requires.one.start c.requires.other.start c.word_of.ensures c.word_of-in-loop-place.ensures
      (λ none. absurd (omega (arith, none, c.if-word_of-ne0.true))) (omega (arith, and_le_l c.word_of.result c.word_of-in-loop-place.result)),
  λ o. refl,
)

pub returns : goal.returns
returns c = (
  λ h. absurd (cc),
  λ o. absurd (apart c.args.one.now c.args.other.now c.loop-place.place c.requires.one.start c.requires.other.start
      (omega (arith, c.loop-place-test.false, c.min-place-end.ensures, c.end_of.ensures, c.end_of-2.ensures)) c.loop-place.invariant o),
)
