-- What is lent to an operation.
use Rattle.std.specs.Prelude.{◌≡◌, ℕ, List, Result, Ok, Err}
use Rattle.qvt_base.specs.declared.numbers.Place.{Place}
use Rattle.qvt_value.specs.Items.{stands_for}
use Rattle.qvt_value.specs.declared.items.Items.{Items}
use Rattle.qvt_value.specs.declared.value.Value.{Value}
use Rattle.qvt_run_data.specs.declared.exit.Halt.{Halt}
use Rattle.qvt_run_data.specs.declared.exit.Halt.TheVariants.{Exits, NoMemory}
use Rattle.qvt_run_data.specs.declared.late.LateWrite.{LateWrite}
use Rattle.qvt_run_rules.specs.Expressions.{tick}
use Rattle.qvt_run_rules.specs.Locals.{read}
use Rattle.qvt_run_rules.specs.State.{Does, Done, ◌>>◌}
use Rattle.qvt_exec_state.specs.Runs.{seen}
use Rattle.qvt_exec_state.specs.declared.state.RunState.{RunState}
use Rattle.qvt_exec_quiet.specs.Lent.{there}

-- the call gives what stands for what the phrase gives, and leaves the state that it leaves, or there was no memory
abbrev pub Lends : Done LateWrite Value → Result Items Halt → RunState → Type 0
Lends d (Ok items) s = d ≡ (Ok (stands_for items), seen s)
Lends d (Err NoMemory) s = Unit {0}
Lends d (Err (Exits e)) s = d ≡ (Err e, seen s)

-- the units of a property of what a variable holds, between which the variable has to be there
abbrev pub charged_twice : (ℕ → Does LateWrite (Unit {0})) → List ℕ → Place → Does LateWrite (Unit {0})
charged_twice spend name at = tick spend >> (there (read name at) >> tick spend)
