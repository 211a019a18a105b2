-- How the fuel bounds a run (the engine's own). A run has a cost that does not hang on the fuel: with at least so much fuel it ends the same,
-- in the same state, and with less it ends out of fuel.
use Rattle.std.specs.Prelude.{◌≡◌, ◌≢◌, ℕ, ◌+◌, ◌≤◌, ◌<◌, nat_lt, if◌then◌else◌, List, [], ◌∷◌, None, Result, Ok, Err}
use Rattle.qvt_slots.specs.Contents.{Contents}
use Rattle.qvt_typing.specs.Accepts.{ProgramTerm}
use Rattle.qvt_run_data.specs.declared.exit.End.{End}
use Rattle.qvt_run_data.specs.declared.exit.End.TheVariants.{OutOfFuel}
use Rattle.qvt_run_data.specs.declared.exit.Exit.{Exit}
use Rattle.qvt_run_data.specs.declared.exit.Exit.TheVariants.{Returned, Ends}
use Rattle.qvt_run_data.specs.declared.late.LateWrite.{LateWrite}
use Rattle.qvt_run_rules.specs.State.{State, Done}
use Rattle.qvt_run_rules.specs.Cost.{charge}
use Rattle.qvt_run_rules.specs.Resolve.{FoundOrEnded, Objects, Undefined, Stopped}
use Rattle.qvt_run_rules.specs.Statements.{block}
use Rattle.qvt_meaning.specs.Laws.{request_run, answered_from}
use Rattle.qvt_meaning.specs.Phrases.{stmts}
use Rattle.qvt_meaning.specs.Plain.{state_of}
use Rattle.qvt_meaning.specs.Readings.{Setting}
use Rattle.qvt_meaning.specs.Run.{AnsweredWrite, FinishedRun, resolved, entered, nothing_barred, main_in, finished}
use Rattle.qvt_meaning.specs.Units.{all_calls}

-- The cost of a run, up to where it ended: that of `main`, and where `main` did not end the run, those of the late entries in order, up to
-- the first that ended it. An entry costs one and its answer.

abbrev pub walked_on : FoundOrEnded → ℕ → ℕ → ℕ
walked_on (Objects os) here rest = rest
walked_on (Undefined r at) here rest = here
walked_on (Stopped e) here rest = here

abbrev pub walked : ℕ → List AnsweredWrite → ℕ
walked cost [] = cost
walked cost (e ∷ es) = walked_on e.answer.found (cost + (1 + e.answer.cost)) (walked (cost + (1 + e.answer.cost)) es)

abbrev pub spent_by : ProgramTerm → Result (Unit {0}) Exit → State LateWrite → ℕ
spent_by p (Ok u) s = walked s.cost (answered_from p s)
spent_by p (Err (Returned v)) s = walked s.cost (answered_from p s)
spent_by p (Err (Ends e)) s = s.cost

-- of the run with this fuel
abbrev pub cost_of : ProgramTerm → Contents → ℕ → ℕ
cost_of p store fuel = spent_by p (request_run p fuel store).0 (request_run p fuel store).1

-- what comes with n units of fuel of a run with this cost and this end
abbrev pub within : ℕ → ℕ → Result FinishedRun End → Result FinishedRun End
within n cost r = if nat_lt n cost then Err OutOfFuel else r

-- A run that has not ended for want of fuel ends so with exactly the fuels that its cost is above, and with each other fuel as it did: with
-- the same fault, or with the same store, trace, entries and cost.
abbrev pub FuelIsExact : Type 0
FuelIsExact = (p : ProgramTerm) (store : Contents) (fuel n : ℕ) → finished p store fuel ≢ Err OutOfFuel → finished p store n ≡ within n (cost_of p store fuel) (finished p store fuel)

-- where it has ended well that is the cost that it tells
abbrev pub CostIsTold : Type 0
CostIsTold = (p : ProgramTerm) (store : Contents) (fuel : ℕ) (f : FinishedRun) → finished p store fuel ≡ Ok f → cost_of p store fuel ≡ f.cost

abbrev pub DoneIsExact : Type 0
DoneIsExact = (p : ProgramTerm) (store : Contents) (fuel n : ℕ) (f : FinishedRun) → finished p store fuel ≡ Ok f → finished p store n ≡ within n f.cost (Ok f)

-- `main` alone, whose state is told however it ends: it comes to the same state with each fuel that its cost is not above
abbrev pub MainIsExact : Type 0
MainIsExact = (p : ProgramTerm) (store : Contents) (fuel n : ℕ) → (request_run p fuel store).0 ≢ Err (Ends OutOfFuel)
    → ((request_run p fuel store).1.cost ≤ n → request_run p n store ≡ request_run p fuel store) × (n < (request_run p fuel store).1.cost → (request_run p n store).0 ≡ Err (Ends OutOfFuel))

-- Loops need no bound but the fuel: where each may have at least as many turns as there is fuel, how many it may have tells nothing.

module _ {E : Type 0} (keep : LateWrite → E) (p : ProgramTerm) (fuel turns : ℕ) where
  -- the rules of a run in which a loop has so many turns at most
  abbrev pub bounded : Setting E
  bounded = record { program = p; spend = charge fuel; turns = turns; resolve = resolved keep p fuel; enter = entered keep p fuel; beyond = nothing_barred keep p fuel }

  abbrev pub bounded_run : Contents → Done E (Unit {0})
  bounded_run store = block (stmts bounded (all_calls bounded) None (main_in p.module_.units)) (state_of store [] [])

abbrev pub TurnsAreNoBound : Type 0
TurnsAreNoBound = (p : ProgramTerm) (store : Contents) (fuel turns : ℕ) → fuel ≤ turns → bounded_run (λ (w : LateWrite). w) p fuel turns store ≡ request_run p fuel store
