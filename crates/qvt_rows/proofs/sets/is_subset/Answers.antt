use Rattle.std.proofs.Common.{◌∙◌, ◌&&◌, not, refl, arith}
use Rattle.qvt_metamodel.specs.Kept.{is_bit}
use Rattle.qvt_metamodel.proofs.Bools.{ap2}
use Rattle.qvt_rows.proofs.SetWords.{subset, no_subset}
use Rattle.qvt_rows.proofs.sets.is_subset.Goals as goal

pub returns-then-word_without-ne0 : goal.returns-then-word_without-ne0
returns-then-word_without-ne0 c = (
  λ h. absurd (cc),
  λ all. absurd (no_subset c.args.one.now c.args.other.now c.loop-place.place c.word_without.result c.requires.one.start c.requires.other.start
      (λ none. absurd (omega (arith, none, c.if-word_without-ne0.true))) (omega arith)
      (λ k l. c.word_without.ensures k l ∙ ap2 (λ v w. is_bit v k && not (is_bit w k)) c.word_of.ensures c.word_of-in-loop-place.ensures) all),
)

pub returns : goal.returns
returns c = (
  λ h. subset c.args.one.now c.args.other.now c.loop-place.place c.requires.one.start c.requires.other.start
      (omega (arith, c.loop-place-test.false, c.end_of-place-end.ensures)) c.loop-place.invariant,
  λ all. refl,
)
