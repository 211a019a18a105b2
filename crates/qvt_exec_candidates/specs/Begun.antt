-- What comes of the steps of a mapping call up to its record, as the rules have it.
use Rattle.std.specs.Prelude.{◌≡◌, Result, Ok, Err}
use Rattle.qvt_run_data.specs.declared.exit.Halt.{Halt}
use Rattle.qvt_run_data.specs.declared.exit.Halt.TheVariants.{Exits, NoMemory}
use Rattle.qvt_run_data.specs.declared.late.LateWrite.{LateWrite}
use Rattle.qvt_run_rules.specs.State.{Done}
use Rattle.qvt_run_rules.specs.Mappings as rule
use Rattle.qvt_exec_state.specs.Runs.{seen}
use Rattle.qvt_exec_state.specs.declared.state.RunState.{RunState}
use Rattle.qvt_exec_candidates.specs.declared.begun.Begun as code
use Rattle.qvt_exec_candidates.specs.declared.begun.Made.{Made}
use Rattle.qvt_exec_candidates.specs.declared.begun.Made.TheVariants as made
use Rattle.qvt_exec_candidates.specs.declared.results.Making.{Making}

abbrev pub made_view : Made → rule.MadeResult
made_view (made.Known r) = rule.Known r
made_view (made.Ended r) = rule.Ended r
made_view (made.New r) = rule.New r

abbrev pub begun_view : code.Begun → rule.BegunCall
begun_view b = (made_view b.made, b.locals)

abbrev pub making_view : Making → rule.ResultClass
making_view c = record { class = c.class; extent = c.extent }

-- the call gives what the phrase gives, as it is seen, and leaves the state that it leaves, or there was no memory
abbrev pub RunsTo : {A B : Type 0} → (A → B) → Done LateWrite B → Result A Halt → RunState → Type 0
RunsTo view d (Ok a) s = d ≡ (Ok (view a), seen s)
RunsTo view d (Err NoMemory) s = Unit {0}
RunsTo view d (Err (Exits e)) s = d ≡ (Err e, seen s)
