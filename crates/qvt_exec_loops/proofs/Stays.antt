-- False after false in `exists`, and true after true in `forAll`, change nothing.
use Rattle.std.proofs.Common.{◌≡◌, refl, true, false, List}
use Rattle.qvt_base.specs.declared.numbers.Place.{Place}
use Rattle.qvt_value.specs.declared.value.Value.{Value, Bool as Truth}
use Rattle.qvt_run_data.specs.declared.late.LateWrite.{LateWrite}
use Rattle.qvt_run_rules.specs.Logic.{is_true, is_false}
use Rattle.qvt_run_rules.specs.State.{State, Does}
use Rattle.qvt_exec_loops.specs.Turns.{after_of, rest_of}
use Rattle.qvt_exec_loops.specs.declared.turns.Turns.TheVariants as turn

module _ (at : Place) (f : Value → Does LateWrite Value) where
  pub stays_false : (v w x : Value) (xs : List Value) (s : State LateWrite) → is_false w ≡ true → is_false v ≡ true → after_of at f (turn.Exists v) x xs w s ≡ rest_of at f (turn.Exists v) xs s
  stays_false (Truth false) (Truth false) x xs s h g = refl
  stays_false (Truth false) (Truth true) x xs s h g = absurd (cc)
  stays_false (Truth true) w x xs s h g = absurd (cc)
  stays_false (Truth false) w x xs s h g = absurd (cc)
  stays_false v w x xs s h g = absurd (cc)

  pub stays_true : (v w x : Value) (xs : List Value) (s : State LateWrite) → is_true w ≡ true → is_true v ≡ true → after_of at f (turn.ForAll v) x xs w s ≡ rest_of at f (turn.ForAll v) xs s
  stays_true (Truth true) (Truth true) x xs s h g = refl
  stays_true (Truth true) (Truth false) x xs s h g = absurd (cc)
  stays_true (Truth false) w x xs s h g = absurd (cc)
  stays_true (Truth true) w x xs s h g = absurd (cc)
  stays_true v w x xs s h g = absurd (cc)
