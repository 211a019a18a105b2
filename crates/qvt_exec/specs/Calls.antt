-- The calls of the units of a run, and what stands behind its phrases (QVT 1.3, 8.2.1.10 to 8.2.1.15).
use Rattle.std.specs.Prelude.{ℕ}
use Rattle.qvt_run_data.specs.declared.late.LateWrite.{LateWrite}
use Rattle.qvt_run_rules.specs.Calls.{CallRule}
use Rattle.qvt_meaning.specs.Readings.{Setting}
use Rattle.qvt_meaning.specs.Units as of_units
use Rattle.qvt_exec_phrases.specs.Units.{UnitMeanings}
use Rattle.qvt_exec_called.specs.Stage.{setting_by}
use Rattle.qvt_exec_answers.specs.Answering.{program_of, resolves_of}
use Rattle.qvt_exec_answers.specs.declared.answering.Answering.{Answering}

-- the rules of a run
abbrev pub setting_of : Answering → Setting LateWrite
setting_of a = setting_by (program_of a) a.fuel (resolves_of a)

-- the calls, of which so many may be open
abbrev pub calls_of : Answering → ℕ → CallRule LateWrite
calls_of a calls = of_units.calls_to (setting_of a) calls

-- what stands behind phrases, where so many calls may be open
abbrev pub units_of : Answering → ℕ → UnitMeanings
units_of a calls = record { program = program_of a; calls = calls_of a calls; resolves = resolves_of a }
