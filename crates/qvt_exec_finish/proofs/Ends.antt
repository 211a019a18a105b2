-- The end of a run, by what `main` gave.
use Rattle.std.proofs.Common.{◌≡◌, ℕ, Result, Ok, Err, refl, sym, subst}
use Rattle.std.specs.List.{All}
use Rattle.std.specs.Result.{IfOk}
use Rattle.qvt_run_data.specs.declared.exit.End.{End}
use Rattle.qvt_run_data.specs.declared.exit.Exit.{Exit}
use Rattle.qvt_run_data.specs.declared.exit.Exit.TheVariants.{Returned, Ends}
use Rattle.qvt_run_data.specs.declared.exit.Halt.{Halt}
use Rattle.qvt_run_data.specs.declared.exit.Halt.TheVariants.{Exits, NoMemory}
use Rattle.qvt_run_data.specs.declared.late.LateWrite.{LateWrite}
use Rattle.qvt_run_rules.specs.State.{State, Done}
use Rattle.qvt_live_store.specs.Held.{contents_of}
use Rattle.qvt_typing.specs.Accepts.{ProgramTerm}
use Rattle.qvt_meaning.specs.Laws.{after_requests, from_requests}
use Rattle.qvt_meaning.specs.Run as run
use Rattle.qvt_run_laws.specs.Entries.{IsFor}
use Rattle.qvt_exec_state.specs.Runs.{Runs, seen}
use Rattle.qvt_exec_state.specs.declared.state.RunState.{RunState}
use Rattle.qvt_exec_finish.specs.Comes.{Comes, ending}
use Rattle.qvt_exec_finish.specs.Finish.{Finishes}
use Rattle.qvt_exec_finish.specs.declared.finish.Finished.{Finished}
use Rattle.qvt_exec_finish.specs.declared.stop.RunStop.{RunStop}
use Rattle.qvt_exec_finish.specs.declared.stop.RunStop.TheVariants as stop

-- a run that gives the same
pub same : (r q : Result run.FinishedRun End) (x : Result Finished RunStop) → r ≡ q → Comes q x → Comes r x
same r q x is comes = subst (λ (f : Result run.FinishedRun End). Comes f x) (sym is) comes

module _ (p : ProgramTerm) (fuel : ℕ) (z : RunState) (d : Done LateWrite (Unit {0})) where
  -- what `main` left, with its end
  by_end : (x : Result Finished RunStop) (r : Result (Unit {0}) Exit) → d ≡ (r, seen z) → Finishes (contents_of z.store) (from_requests p fuel r (seen z)) x → Comes (from_requests p fuel d.0 d.1) x
  by_end x r left ends = (contents_of z.store, subst (λ (m : Done LateWrite (Unit {0})). Finishes (contents_of z.store) (from_requests p fuel m.0 m.1) x) (sym left) ends)

  pub goes_on : (o : Result (Unit {0}) Halt) (x : Result Finished RunStop) (u : Unit {0}) → Runs d o z → ending o ≡ Ok u → Finishes (contents_of z.store) (after_requests p fuel (seen z)) x → Comes (from_requests p fuel d.0 d.1) x
  goes_on (Ok v) x u runs is ends = by_end x (Ok v) runs ends
  goes_on (Err (Exits (Returned v))) x u runs is ends = by_end x (Err (Returned v)) runs ends
  goes_on (Err (Exits (Ends e))) x u runs is ends = absurd (cc)
  goes_on (Err NoMemory) x u runs is ends = absurd (cc)

  pub stops : (o : Result (Unit {0}) Halt) (s : RunStop) → Runs d o z → ending o ≡ Err s → Comes (from_requests p fuel d.0 d.1) (Err s)
  stops (Ok v) s runs is = absurd (cc)
  stops (Err (Exits (Returned v))) s runs is = absurd (cc)
  stops (Err (Exits (Ends e))) s runs is = let same_end : stop.Ends e ≡ s = cc in subst (λ (t : RunStop). Comes (from_requests p fuel d.0 d.1) (Err t)) same_end (by_end (Err (stop.Ends e)) (Err (Ends e)) runs refl)
  stops (Err NoMemory) s runs is = let same_end : stop.NoMemory ≡ s = cc in subst (λ (t : RunStop). Comes (from_requests p fuel d.0 d.1) (Err t)) same_end (contents_of z.store, tt)

-- where `main` does not end the run, what late assignments have kept fits as `main` left it
abbrev Fit : State LateWrite → Type 0
Fit s = All (IsFor s.store) s.entries

pub fits : (z : RunState) (d : Done LateWrite (Unit {0})) (o : Result (Unit {0}) Halt) → Runs d o z → Fit d.1 → IfOk (ending o) (λ _. Fit (seen z))
fits z d (Ok v) runs h = subst (λ (m : Done LateWrite (Unit {0})). Fit m.1) runs h
fits z d (Err (Exits (Returned v))) runs h = subst (λ (m : Done LateWrite (Unit {0})). Fit m.1) runs h
fits z d (Err (Exits (Ends e))) runs h = tt
fits z d (Err NoMemory) runs h = tt
