-- What is gathered while a collection literal is evaluated.
use Rattle.std.specs.Prelude.{◌≡◌, List, [], Result, Ok, Err}
use Rattle.qvt_base.specs.declared.numbers.Place.{Place}
use Rattle.qvt_value.specs.declared.value.Kind.{Kind}
use Rattle.qvt_value.specs.declared.value.Value.{Value}
use Rattle.qvt_run_data.specs.declared.exit.Halt.{Halt}
use Rattle.qvt_run_data.specs.declared.exit.Halt.TheVariants.{Exits, NoMemory}
use Rattle.qvt_run_data.specs.declared.late.LateWrite.{LateWrite}
use Rattle.qvt_run_rules.specs.State.{State, Done, Does, ◌>>=◌, pure}
use Rattle.qvt_run_rules.specs.Expressions as rule
use Rattle.qvt_exec_state.specs.Runs.{seen}
use Rattle.qvt_exec_state.specs.declared.state.RunState.{RunState}
use Rattle.qvt_exec_words.specs.Gathered.{AreGathered, HasMore}
use Rattle.qvt_exec_words.specs.declared.literals.Gathered.{Gathered}

-- the items that a phrase gives were gathered besides
pub record GivesItems (d : Done LateWrite (List Value)) (before after : Gathered) (s : RunState) : Type 0 where
  pub items : List Value
  pub given : d ≡ (Ok items, seen s)
  pub more : HasMore items before after

abbrev pub Gathers : Done LateWrite (List Value) → Gathered → Gathered → Result (Unit {0}) Halt → RunState → Type 0
Gathers d before after (Ok u) s = GivesItems d before after s
Gathers d before after (Err NoMemory) s = Unit {0}
Gathers d before after (Err (Exits e)) s = d ≡ (Err e, seen s)

-- what was gathered while a literal is evaluated, where d is what all its items give and ps are those to come
pub record IsGathering (kind : Kind) (d : Done LateWrite (List Value)) (ps : List (Does LateWrite (List Value))) (g : Gathered) (s : State LateWrite) : Type 0 where
  pub done : List Value
  pub gathered : AreGathered kind done g
  pub rest : rule.lists_onto done ps s ≡ d

-- the collection of all items
abbrev pub gathered_in : Kind → List (Does LateWrite (List Value)) → Place → Does LateWrite Value
gathered_in k ps at = rule.lists_onto [] ps >>= (λ vs. pure (rule.collection at k vs))
