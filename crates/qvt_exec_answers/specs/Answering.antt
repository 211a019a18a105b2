-- What a resolve answers over a trace, a store and variables (QVT 1.3, 8.1.10 and 8.2.1.22).
use Rattle.std.specs.Prelude.{List, Some}
use Rattle.qvt_base.specs.declared.numbers.Place.{Place}
use Rattle.qvt_store.specs.Contents.{Contents}
use Rattle.qvt_value.specs.declared.value.Value.{Value}
use Rattle.qvt_run_data.specs.declared.late.LateWrite.{LateWrite}
use Rattle.qvt_run_data.specs.declared.record.Record.{Record}
use Rattle.qvt_run_data.specs.declared.request.Query.{Query}
use Rattle.qvt_run_rules.specs.Cost.{spend_of}
use Rattle.qvt_run_rules.specs.Resolve.{ResolveAnswer, answered_now}
use Rattle.qvt_run_rules.specs.State.{State, Does}
use Rattle.qvt_meaning.specs.Plain.{answer}
use Rattle.qvt_typing.specs.Accepts.{ProgramTerm}
use Rattle.qvt_types_program.specs.Program.{program_view}
use Rattle.qvt_exec_answers.specs.declared.answering.Answering.{Answering}
use Rattle.qvt_exec_answers.specs.declared.questions.Question.{Question}

-- the program of a run
abbrev pub program_of : Answering → ProgramTerm
program_of a = program_view a.expressions.now.program.now

abbrev pub query_view : Question → Query
query_view q = record { request = q.request.now; one = q.one; condition = q.condition }

abbrev pub answer_of : Answering → List Record → Contents → Question → ResolveAnswer
answer_of a records s q = answer (program_of a) records s q.locals.now q.place (query_view q)

-- over what a state has
abbrev pub answer_in : Answering → Place → Query → State LateWrite → ResolveAnswer
answer_in a at q s = answer (program_of a) s.trace s.store s.locals at q

-- of a resolve that is not late: over the state's own trace and store, with the cost of the conditions
abbrev pub resolves_of : Answering → Place → Query → Does LateWrite Value
resolves_of a at q = λ s. answered_now (spend_of (Some a.fuel)) q.one (answer_in a at q s) s
