-- What is left is told by the line and the status of what the program means.
use Rattle.std.proofs.Common.{◌≡◌, ◌∙◌, refl, ap, sym, ℕ, List, Option, Err}
use Rattle.qvt_base.specs.declared.numbers.Place.{Place}
use Rattle.qvt_run_data.specs.declared.exit.End.{End}
use Rattle.qvt_run_data.specs.declared.exit.End.TheVariants as run
use Rattle.qvt_run_data.specs.declared.fault.RunFault.{RunFault}
use Rattle.qvt_job.specs.declared.job.Job.{Job}
use Rattle.qvt_meaning.specs.Accepts.{ProgramTerm}
use Rattle.qvt_meaning_report.specs.Lines.{line_of}
use Rattle.qvt_meaning_report.specs.Meaning.{Fault, OutOfFuel, Low, Done, outcome_of}
use Rattle.qvt_outcome.specs.Outcome.{fault}
use Rattle.qvt_outputs.specs.Left.{left}
use Rattle.qvt_outputs.specs.Laws.{LinesAreMeant, StatusIsMeant}

pub lines_are_meant : LinesAreMeant
unfolding left
lines_are_meant job p ids (Fault k at) = refl
lines_are_meant job p ids OutOfFuel = refl
lines_are_meant job p ids (Low s l) = refl
lines_are_meant job p ids (Done f) = refl

pub status_is_meant : StatusIsMeant
unfolding left
status_is_meant job p ids (Fault k at) = refl
status_is_meant job p ids OutOfFuel = refl
status_is_meant job p ids (Low s l) = refl
status_is_meant job p ids (Done f) = refl

-- the line of a fault
pub fault_is_left : (job : Job) (p : ProgramTerm) (ids : List (Option (List ℕ))) (e : End) (k : RunFault) (at : Place) (file line : List ℕ) → e ≡ run.Fault k at → file ≡ job.text
    → line ≡ line_of file job.fuel ids (outcome_of (Err e)) → left job p ids (outcome_of (Err e)) ≡ Err (fault line)
unfolding left
fault_is_left job p ids e k at file line is named told =
    ap (λ x. left job p ids (outcome_of (Err x))) is
    ∙ ap (λ l. Err (fault l)) (sym (told ∙ (λ i. line_of (named i) job.fuel ids (outcome_of (Err (is i))))))
