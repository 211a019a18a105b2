-- The line of a run that has ended well is that of what it means.
use Rattle.std.proofs.Common.{◌≡◌, ◌∙◌, ap, sym, ℕ, List, Option, Some, None, Ok}
use Rattle.qvt_conform.specs.declared.fault.LowFault.{LowFault}
use Rattle.qvt_meaning.specs.Run.{FinishedRun}
use Rattle.qvt_meaning_report.specs.Lines.{line_of, written_count}
use Rattle.qvt_meaning_report.specs.Meaning.{low_in, outcome_of, unless_low}
use Rattle.qvt_store.specs.Contents.{Contents}
use Rattle.qvt_report.specs.Lines.{IsDone, done_text, line_for}

module _ (file : List ℕ) (fuel : ℕ) (ids : List (Option (List ℕ))) (f : FinishedRun) (s : Contents) (records entries cost : ℕ) where
  line_is : IsDone f s records entries cost → (low : Option LowFault) → line_for s ids records entries cost low ≡ line_of file fuel ids (unless_low low f)
  line_is done (Some low) = sym (ap (λ t. line_for t ids records entries cost (Some low)) done.store)
  line_is done None = sym (λ i. done_text (written_count (done.store i)) (done.records i) (done.entries i) (done.cost i))

  pub finished_is : IsDone f s records entries cost → (low : Option LowFault) → low ≡ low_in s → line_for s ids records entries cost low ≡ line_of file fuel ids (outcome_of (Ok f))
  finished_is done low is = line_is done low ∙ ap (λ l. line_of file fuel ids (unless_low l f)) (is ∙ sym (ap low_in done.store))
