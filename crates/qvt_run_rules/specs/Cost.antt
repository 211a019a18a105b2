-- Fuel (the engine's own). Each rule charges where evaluation reaches the unit, so a rule takes what a charge of so many units does.
use Rattle.std.specs.Prelude.{ℕ, ◌+◌, nat_lt, if◌then◌else◌, Option, Some, None, Ok, Err}
use Rattle.qvt_run_data.specs.declared.exit.End.TheVariants.{OutOfFuel}
use Rattle.qvt_run_data.specs.declared.exit.Exit.TheVariants.{Ends}
use Rattle.qvt_run_rules.specs.State.{Does}

-- n units more, unless the cost would pass the fuel
unfoldable pub charge : {E : Type 0} → ℕ → ℕ → Does E (Unit {0})
charge fuel n = λ s. if nat_lt fuel (s.cost + n) then (Err (Ends OutOfFuel), s) else (Ok tt, record s { cost = s.cost + n })

-- n units more, without an end
unfoldable pub count : {E : Type 0} → ℕ → Does E (Unit {0})
count n = λ s. (Ok tt, record s { cost = s.cost + n })

-- within a limit, if there is one
unfoldable pub spend_of : {E : Type 0} → Option ℕ → ℕ → Does E (Unit {0})
spend_of None = count
spend_of (Some fuel) = charge fuel
