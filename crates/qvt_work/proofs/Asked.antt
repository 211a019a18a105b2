-- What is so of a command that was asked for, of the words that ask for it.
use Rattle.std.proofs.Common.{◌≡◌, ◌∙◌, subst, ℕ, List, Option, Some, None}
use Rattle.std.specs.Prelude.{IsOk}
use Rattle.qvt_base.specs.Outside.{Held}
use Rattle.qvt_meaning.specs.Run.{FinishedRun}
use Rattle.qvt_work.specs.Conforming.{ModelsConform, CommandConforms}
use Rattle.qvt_work.specs.Fuel.{HasExactCost}
use Rattle.qvt_work.specs.Recorded.{HasOneRecordEach}
use Rattle.qvt_work.specs.Runs.{JobRun, IsOfRun}
use Rattle.qvt_work.specs.Words.{CommandWords, run, command_of}
use Rattle.qvt_work.specs.Work.{work_of, work, work_or_usage}
use Rattle.qvt_work.proofs.Behind.{runs_conform, runs_are_recorded, runs_are_exact}

same_command : (c d : CommandWords) → ◌≡◌ {A = Option CommandWords} (Some c) (Some d) → c ≡ d
same_command c d e = cc

no_command : (c : CommandWords) → ¬ (◌≡◌ {A = Option CommandWords} None (Some c))
no_command c e = absurd (cc)

-- words that are no command ask for no run
pub none_asked : (words : List (List ℕ)) (held : Held) (P : JobRun → FinishedRun → Type 0) → None ≡ command_of words → IsOfRun words held P
none_asked words held P none file asked = absurd (no_command (run file) (none ∙ asked))

module _ (words : List (List ℕ)) (c : CommandWords) (held : Held) (asked : Some c ≡ command_of words) (given : IsOk (work_of c held).answer) where
  work_given : IsOk (work words held).answer
  unfolding work
  work_given = subst (λ (o : Option CommandWords). IsOk (work_or_usage o held).answer) asked given

  pub conform_asked : CommandConforms c held → IsOfRun words held ModelsConform
  conform_asked h = runs_conform words held work_given (λ file is. subst (λ c. CommandConforms c held) (same_command c (run file) (asked ∙ is)) h)

  pub records_asked : IsOfRun words held HasOneRecordEach
  records_asked = runs_are_recorded words held work_given

  pub cost_asked : IsOfRun words held (HasExactCost held)
  cost_asked = runs_are_exact words held work_given
