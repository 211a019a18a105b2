-- The outcome of the words of a command line over the bytes that the files hold, and the names that are read for it.
use Rattle.std.specs.Prelude.{List, ℕ, Option, Some, None, Ok}
use Rattle.qvt_base.specs.Outside.{Held}
use Rattle.qvt_outcome.specs.Chain.{Chain, step}
use Rattle.qvt_work.specs.Check.{check_of}
use Rattle.qvt_outcome.specs.Outcome.{Outcome, usage}
use Rattle.qvt_work.specs.Printing.{print_of}
use Rattle.qvt_work.specs.Run.{run_of}
use Rattle.qvt_outcome.specs.Steps.{settled}
use Rattle.qvt_work.specs.Words.{CommandWords, run, check, print, command_of}

abbrev pub work_of : CommandWords → Chain Outcome
work_of (run name) = run_of name
work_of (check metamodel model) = check_of metamodel model
work_of (print name) = print_of name

abbrev pub work_or_usage : Option CommandWords → Chain Outcome
work_or_usage None = step (Ok usage)
work_or_usage (Some command) = work_of command

-- what the words ask for
unfoldable pub work : List (List ℕ) → Chain Outcome
work words = work_or_usage (command_of words)

-- the outcome over the bytes of the files
abbrev pub job : List (List ℕ) → Held → Outcome
job words held = settled (work words held).answer

-- the names of the files that are read for it, in order
abbrev pub turns : List (List ℕ) → Held → List (List ℕ)
turns words held = (work words held).names
