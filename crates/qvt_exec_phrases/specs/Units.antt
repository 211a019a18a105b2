-- What phrases ask of what stands behind them: the program, the calls of units, and what a resolve answers that is not late (QVT 1.3, 8.2.1.10 to
-- 8.2.1.15 and 8.2.1.22).
use Rattle.qvt_base.specs.declared.numbers.Place.{Place}
use Rattle.qvt_value.specs.declared.value.Value.{Value}
use Rattle.qvt_run_data.specs.declared.late.LateWrite.{LateWrite}
use Rattle.qvt_run_data.specs.declared.request.Query.{Query}
use Rattle.qvt_run_rules.specs.Calls.{CallRule}
use Rattle.qvt_run_rules.specs.State.{Does}
use Rattle.qvt_program_units.specs.Accepts.{ProgramTerm}

pub record UnitMeanings : Type 0 where
  pub program : ProgramTerm
  pub calls : CallRule LateWrite
  pub resolves : Place → Query → Does LateWrite Value
