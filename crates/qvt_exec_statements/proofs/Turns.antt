-- Turns of a loop, and of the arms of an `if`.
use Rattle.std.proofs.Common.{◌≡◌, ℕ, suc, ◌<◌, ◌≤◌, ◌-◌, ap, if◌then◌else◌, Err, arith}
use Rattle.qvt_base.specs.declared.numbers.Place.{Place}
use Rattle.qvt_value.specs.declared.value.Value.{Value}
use Rattle.qvt_run_data.specs.declared.exit.End.TheVariants.{OutOfFuel}
use Rattle.qvt_run_data.specs.declared.exit.Exit.TheVariants.{Ends}
use Rattle.qvt_run_data.specs.declared.late.LateWrite.{LateWrite}
use Rattle.qvt_run_rules.specs.State.{State, Does, on_outcome, pure}
use Rattle.qvt_run_rules.specs.Statements as statement

module _ (test : Does LateWrite Value) (at : Place) (body : Does LateWrite (Unit {0})) where
  -- one of so many
  pub one_more : (n k : ℕ) (s : State LateWrite) → k < n →
      statement.loop (n - k) test at body s ≡ on_outcome (statement.turn test at body s).0 (statement.turn test at body s).1 (λ made. if made then statement.loop (n - suc k) test at body else pure tt)
  unfolding statement.loop
  one_more n k s h = let e : n - k ≡ suc (n - suc k) = omega (arith, h) in ap (λ m. statement.loop m test at body s) e

  -- none is left
  pub none_left : (n k : ℕ) (s : State LateWrite) → n ≤ k → statement.loop (n - k) test at body s ≡ (Err (Ends OutOfFuel), s)
  unfolding statement.loop
  none_left n k s h = let e : n - k ≡ 0 = omega (arith, h) in ap (λ m. statement.loop m test at body s) e
