-- What the units of a program mean in a run, whose cost is held to its fuel.
use Rattle.std.specs.Prelude.{ℕ, false, Option, Some}
use Rattle.qvt_base.specs.declared.numbers.Place.{Place}
use Rattle.qvt_value.specs.declared.value.Value.{Value}
use Rattle.qvt_types_nodes.specs.Module.{typed_mapping_view}
use Rattle.qvt_typing.specs.Accepts.{ProgramTerm}
use Rattle.qvt_run_data.specs.declared.late.LateWrite.{LateWrite}
use Rattle.qvt_run_data.specs.declared.request.Query.{Query}
use Rattle.qvt_run_rules.specs.State.{Does}
use Rattle.qvt_run_rules.specs.Calls.{CallRule}
use Rattle.qvt_run_rules.specs.Cost.{spend_of}
use Rattle.qvt_run_rules.specs.Mappings.{MappingRule}
use Rattle.qvt_meaning.specs.Readings.{Setting}
use Rattle.qvt_meaning.specs.Units as of_units
use Rattle.qvt_exec_phrases.specs.Units.{UnitMeanings}
use Rattle.qvt_exec_phrases.specs.Means.{barred_in, enters_in}
use Rattle.qvt_exec_candidates.specs.declared.mapping.MappingUnit.{MappingUnit}
use Rattle.qvt_exec_candidates.specs.declared.run.Run.{Run}

-- a run as its units read it, and what stands behind them
abbrev pub Stage : Type 0
Stage = Run × UnitMeanings

-- the rules of a run of a program with so much fuel and these answers of resolves
abbrev pub setting_by : ProgramTerm → ℕ → (Place → Query → Does LateWrite Value) → Setting LateWrite
setting_by p fuel resolves = record { program = p; spend = spend_of (Some fuel); turns = fuel; resolve = resolves; enter = enters_in false; beyond = barred_in false }

abbrev pub setting_in : Stage → Setting LateWrite
setting_in x = setting_by x.1.program x.0.fuel x.1.resolves

-- a mapping
unfoldable pub rule_in : Setting LateWrite → CallRule LateWrite → MappingUnit → MappingRule LateWrite
rule_in x calls m = of_units.mapping_rule x calls m.number m.head.now (typed_mapping_view m.node.now)

abbrev pub rule_of : Stage → MappingUnit → MappingRule LateWrite
rule_of x m = rule_in (setting_in x) x.1.calls m

abbrev pub mappings_of : Stage → ℕ → Option (MappingRule LateWrite)
mappings_of x = of_units.mapping_at (setting_in x) x.1.calls
