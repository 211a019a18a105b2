-- What a dot does on one value, of all that it can do, and on each value of a list; what goes over items, where there are none
-- (OCL 2.4, 7.5.3, 7.6 and 11.3.3).
use Rattle.std.specs.Prelude.{List, [], ◌∷◌, Result, Ok, Err}
use Rattle.qvt_base.specs.declared.numbers.Place.{Place}
use Rattle.qvt_value.specs.declared.value.Value.{Value, Invalid}
use Rattle.qvt_run_data.specs.declared.exit.End.TheVariants.{Fault}
use Rattle.qvt_run_data.specs.declared.exit.Exit.TheVariants.{Ends}
use Rattle.qvt_run_data.specs.declared.exit.Halt.{Halt}
use Rattle.qvt_run_data.specs.declared.exit.Halt.TheVariants.{Exits}
use Rattle.qvt_run_data.specs.declared.fault.RunFault.TheVariants.{TypeFault}
use Rattle.qvt_run_data.specs.declared.late.LateWrite.{LateWrite}
use Rattle.qvt_run_rules.specs.Cost.{count}
use Rattle.qvt_run_rules.specs.State.{Does, look}
use Rattle.qvt_run_rules.specs.Expressions as rule
use Rattle.qvt_run_rules.specs.Sources.{for_items}
use Rattle.qvt_exec_leaves.specs.declared.dotted.Leaf.{Leaf}
use Rattle.qvt_exec_leaves.specs.declared.dotted.Leaf.TheVariants.{Property, Operation, Test}

abbrev pub leaf_does : Leaf → Place → Value → Does LateWrite Value
leaf_does (Property f) at = rule.property_of f.0 at
leaf_does (Operation o ws) at = rule.applied count o ws.now at
leaf_does (Test t c) at = λ v. look (λ s. rule.tested s.store t c.0 at v) at

-- the arguments that a dot has
abbrev pub arguments_of : Leaf → List Value
arguments_of (Property f) = []
arguments_of (Operation o ws) = ws.now
arguments_of (Test t c) = []

-- the dot on each value of a list
abbrev pub for_list : Place → (Value → Does LateWrite Value) → List Value → List (Does LateWrite Value)
for_list at f [] = []
for_list at f (v ∷ vs) = for_items at f v ∷ for_list at f vs

-- what goes over items gives of a value that has none
abbrev pub without_items : Value → Place → Result Value Halt
without_items (Invalid r p) at = Ok (Invalid r p)
without_items v at = Err (Exits (Ends (Fault TypeFault at)))
