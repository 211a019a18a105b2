use Rattle.std.proofs.Common.{◌≡◌, ◌∙◌, ℕ, ◌<◌, ◌&&◌, not, [], ◌∷◌, get_or, length, arith, ap, sym, subst}
use Rattle.std.specs.Prelude.{nat_lt}
use Rattle.std.proofs.lemmas.List.{length-append}
use Rattle.qvt_metamodel.specs.Kept.{is_bit}
use Rattle.qvt_rows.proofs.Pushed.{one_pushed}
use Rattle.qvt_counts.specs.Counts.{counted, no_counter}
use Rattle.qvt_counts.proofs.Counted.{left_at}
use Rattle.qvt_counts.proofs.counts.counted_without.Goals as goal

pub loop-place-preserved : goal.loop-place-preserved
loop-place-preserved c =
    let counts = c.args.counts.now in
    let words = c.args.words.now in
    record {
      each = omega (arith, ap length c.in_ok-push.ensures.ok, length-append c.loop-place.rest (c.word_without.result ∷ []), c.loop-place.invariant.each);
      words = subst (λ ws. (i : ℕ) → i < length ws → (k : ℕ) → k < 64 → is_bit (get_or ws i 0) k ≡ (nat_lt 0 (counted (get_or counts i no_counter) k) && not (is_bit (get_or words i 0) k))) (sym c.in_ok-push.ensures.ok)
          (one_pushed 0 (λ i w. (k : ℕ) → k < 64 → is_bit w k ≡ (nat_lt 0 (counted (get_or counts i no_counter) k) && not (is_bit (get_or words i 0) k))) c.loop-place.rest c.word_without.result c.loop-place.invariant.words
          (λ k l. c.word_without.ensures k l
          ∙ ap (λ b. b && not (is_bit (get_or words c.loop-place.place 0) k)) (c.where_some.ensures k)
          ∙ ap (λ n. nat_lt 0 (counted (get_or counts n no_counter) k) && not (is_bit (get_or words n 0) k)) (sym c.loop-place.invariant.each)));
    }

pub returns-clause-marks : goal.returns-clause-marks
returns-clause-marks c = left_at c.args.counts.now c.args.words.now c.loop-place.rest (omega (arith, c.loop-place.invariant.each, c.loop-place-test.false, c.loop-place.auto.place-end)) c.loop-place.invariant.words
