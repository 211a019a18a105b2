-- Where a phrase is a misfit.
use Rattle.std.proofs.Common.{◌≡◌, sym, ap, subst, Result, Err}
use Rattle.qvt_base.specs.declared.numbers.Place.{Place}
use Rattle.qvt_run_data.specs.declared.exit.End.TheVariants.{Fault}
use Rattle.qvt_run_data.specs.declared.exit.Exit.TheVariants.{Ends}
use Rattle.qvt_run_data.specs.declared.exit.Halt.{Halt}
use Rattle.qvt_run_data.specs.declared.exit.Halt.TheVariants.{Exits}
use Rattle.qvt_run_data.specs.declared.fault.RunFault.TheVariants.{TypeFault}
use Rattle.qvt_run_data.specs.declared.late.LateWrite.{LateWrite}
use Rattle.qvt_run_rules.specs.State.{Does, misfit}
use Rattle.qvt_exec_leaves.specs.Runs.{Runs, seen}
use Rattle.qvt_exec_leaves.specs.declared.state.RunState.{RunState}

pub misfits : {A : Type 0} (p : Does LateWrite A) (at : Place) (r : Result A Halt) (t : RunState) → p ≡ misfit at → r ≡ Err (Exits (Ends (Fault TypeFault at))) → Runs (p (seen t)) r t
misfits {A} p at r t is e = subst (λ (z : Result A Halt). Runs (p (seen t)) z t) (sym e) (ap (λ (q : Does LateWrite A). q (seen t)) is)
