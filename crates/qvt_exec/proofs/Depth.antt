-- Calls, of which so many may be open.
use Rattle.std.proofs.Common.{◌≡◌, ℕ, suc, List, Err, ap, refl}
use Rattle.qvt_base.specs.declared.numbers.Place.{Place}
use Rattle.qvt_value.specs.declared.value.Value.{Value}
use Rattle.qvt_run_data.specs.declared.callee.Callee.{Callee}
use Rattle.qvt_run_data.specs.declared.exit.End.TheVariants.{Fault}
use Rattle.qvt_run_data.specs.declared.fault.RunFault.TheVariants as fault
use Rattle.qvt_run_data.specs.declared.exit.Exit.TheVariants.{Ends}
use Rattle.qvt_run_data.specs.declared.late.LateWrite.{LateWrite}
use Rattle.qvt_run_rules.specs.State.{State}
use Rattle.qvt_meaning.specs.Units as of_units
use Rattle.qvt_meaning.specs.Units.{calls_to}
use Rattle.qvt_exec_answers.specs.declared.answering.Answering.{Answering}
use Rattle.qvt_exec.specs.Calls.{calls_of, setting_of}

pub none_left : (a : Answering) (left : ℕ) (c : Callee) (vs : List Value) (at : Place) (s : State LateWrite) → left ≡ 0 → calls_of a left c vs at s ≡ (Err (Ends (Fault fault.CallDepth at)), s)
unfolding calls_to
none_left a left c vs at s h = ap (λ n. calls_of a n c vs at s) h

pub some_left : (a : Answering) (left : ℕ) (c : Callee) (vs : List Value) (at : Place) → calls_of a (suc left) c vs at ≡ of_units.called (setting_of a) (calls_of a left) c vs at
unfolding calls_to
some_left a left c vs at = refl
