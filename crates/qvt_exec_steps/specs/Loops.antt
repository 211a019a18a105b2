-- `iterate`, and iterators without an accumulator (OCL 2.4, 11.9).
use Rattle.std.specs.Prelude.{ℕ, None, List, [], ◌∷◌, Option}
use Rattle.qvt_base.specs.declared.numbers.Place.{Place}
use Rattle.qvt_value.specs.declared.value.Value.{Value}
use Rattle.qvt_run_data.specs.declared.late.LateWrite.{LateWrite}
use Rattle.qvt_run_rules.specs.State.{Does}
use Rattle.qvt_run_rules.specs.Locals as local
use Rattle.qvt_run_rules.specs.Sources.{over_items, unless_invalid}
use Rattle.qvt_run_rules.specs.Iterators.{iterate_from}
use Rattle.qvt_exec_types.specs.Readings.{HeadDoes}

-- `iterate` behind its first value
abbrev pub iterated_from : Place → Option (List ℕ) → List ℕ → Does LateWrite Value → Value → Value → Does LateWrite Value
iterated_from at name acc body a v = over_items at (λ k xs. unless_invalid a (iterate_from name acc body a xs)) v

-- the name of an iterator without an accumulator
abbrev pub named_alone : Option (List ℕ) → HeadDoes LateWrite
named_alone name = record { name = name; accumulator = None }

-- a turn of `iterate`
abbrev pub iterate_once : Option (List ℕ) → List ℕ → Does LateWrite Value → Value → Value → Does LateWrite Value
iterate_once name acc body a x = λ s. local.with_locals (local.fixed (local.name_in s.locals name) x ∷ local.fixed acc a ∷ []) body s
