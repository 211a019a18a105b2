-- What an answer is charged.
use Rattle.std.proofs.Common.{◌≡◌, ◌+◌, nat_lt, if◌then◌else◌, ℕ, Bool, true, Some, Ok, Err, ap}
use Rattle.qvt_run_data.specs.declared.exit.End.TheVariants.{OutOfFuel}
use Rattle.qvt_run_data.specs.declared.exit.Exit.TheVariants.{Ends}
use Rattle.qvt_run_data.specs.declared.late.LateWrite.{LateWrite}
use Rattle.qvt_run_rules.specs.Cost.{spend_of, charge}
use Rattle.qvt_run_rules.specs.Resolve as rule
use Rattle.qvt_run_rules.specs.State.{State, on_outcome}
use Rattle.qvt_exec_resolves.specs.Verdicts.{found_view}
use Rattle.qvt_exec_answers.specs.declared.sifting.Sum.{Sum}
use Rattle.qvt_exec_answers.specs.Room.{GivesAnswer, charged_of}

pub charged_is : (fuel : ℕ) (one : Bool) (a : rule.ResolveAnswer) (s : Sum) → GivesAnswer a s
    → charged_of fuel one s.cost (found_view s.found) ≡ rule.answered_now (spend_of {E = LateWrite} (Some fuel)) one a
charged_is fuel one a s is = λ i. charged_of fuel one (is.cost i) (is.found i)

-- a charge above the fuel ends the run
charged_over : (fuel n : ℕ) (s : State LateWrite) → nat_lt fuel (s.cost + n) ≡ true → spend_of (Some fuel) n s ≡ (Err (Ends OutOfFuel), s)
unfolding spend_of charge
charged_over fuel n s above = ap (λ b. if b then (Err (Ends OutOfFuel), s) else (Ok tt, record s { cost = s.cost + n })) above

pub not_charged : (fuel : ℕ) (one : Bool) (a : rule.ResolveAnswer) (s : State LateWrite) → nat_lt fuel (s.cost + a.cost) ≡ true
    → rule.answered_now (spend_of (Some fuel)) one a s ≡ (Err (Ends OutOfFuel), s)
not_charged fuel one a s above = ap (λ d. on_outcome d.0 d.1 (λ _. rule.answer_value one a.found)) (charged_over fuel a.cost s above)
