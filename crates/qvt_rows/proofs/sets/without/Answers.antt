use Rattle.std.proofs.Common.{◌≡◌, ◌∙◌, ℕ, ◌+◌, ◌<◌, ◌&&◌, not, [], ◌∷◌, get_or, length, arith, ap, sym, subst}
use Rattle.std.proofs.lemmas.List.{length-append}
use Rattle.qvt_metamodel.specs.Kept.{word_of, is_bit}
use Rattle.qvt_metamodel.proofs.Bools.{ap2}
use Rattle.qvt_rows.proofs.Pushed.{one_pushed}
use Rattle.qvt_rows.proofs.SetWords.{rest}
use Rattle.qvt_rows.proofs.sets.without.Goals as goal

pub loop-place-preserved : goal.loop-place-preserved
loop-place-preserved c =
    let one = c.args.one.now in
    let other = c.args.other.now in
    record {
      each = omega (arith, ap length c.in_ok-push.ensures.ok, length-append c.loop-place.words (c.word_without.result ∷ []), c.loop-place.invariant.each);
      words = subst (λ ws. (i : ℕ) → i < length ws → (k : ℕ) → k < 64 → is_bit (get_or ws i 0) k ≡ (is_bit (word_of one (one.skipped + i)) k && not (is_bit (word_of other (one.skipped + i)) k))) (sym c.in_ok-push.ensures.ok)
          (one_pushed 0 (λ i w. (k : ℕ) → k < 64 → is_bit w k ≡ (is_bit (word_of one (one.skipped + i)) k && not (is_bit (word_of other (one.skipped + i)) k))) c.loop-place.words c.word_without.result c.loop-place.invariant.words
          (λ k l. c.word_without.ensures k l ∙ ap2 (λ v w. is_bit v k && not (is_bit w k))
          (c.word_of.ensures ∙ ap (word_of one) (sym c.loop-place.invariant.each)) (c.word_of-in-loop-place.ensures ∙ ap (word_of other) (sym c.loop-place.invariant.each))));
    }

pub returns-clause-marks : goal.returns-clause-marks
returns-clause-marks c =
    rest c.args.one.now c.args.other.now c.loop-place.words c.requires.one.start c.requires.other.start
    (omega (arith, c.loop-place.invariant.each, c.loop-place-test.false, c.end_of-place-end.ensures)) c.loop-place.invariant.words
