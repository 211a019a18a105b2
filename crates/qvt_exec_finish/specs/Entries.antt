-- The answers of late entries over what a run left.
use Rattle.std.specs.Prelude.{◌≡◌, ℕ, List, ◌∷◌, map, Result, Ok, Err}
use Rattle.qvt_base.specs.declared.numbers.Oid.{Oid}
use Rattle.qvt_run_data.specs.declared.late.LateWrite.{LateWrite}
use Rattle.qvt_run_data.specs.declared.exit.End.{End}
use Rattle.qvt_run_rules.specs.Resolve as rule
use Rattle.qvt_meaning.specs.Run as run
use Rattle.qvt_typing.specs.Accepts.{ProgramTerm}
use Rattle.qvt_exec_finish.specs.declared.answers.Ended.{Ended}
use Rattle.qvt_exec_finish.specs.declared.entries.Entry.{Entry}
use Rattle.qvt_exec_finish.specs.declared.stop.RunStop.{RunStop}
use Rattle.qvt_exec_finish.specs.declared.stop.RunStop.TheVariants.{Ends, NoMemory}

abbrev pub finish_view : Ended → run.Finish
finish_view f = record { trace = f.trace.now; store = f.store.now }

abbrev pub entry_view : Entry → run.AnsweredWrite
entry_view e = record { write = e.write; answer = record { found = rule.Objects e.objects; cost = e.cost } }

abbrev pub entry_over : ProgramTerm → Ended → LateWrite → run.AnsweredWrite
entry_over p f w = run.answered p (finish_view f) w

abbrev pub answer_over : ProgramTerm → Ended → LateWrite → rule.ResolveAnswer
answer_over p f w = (entry_over p f w).answer

abbrev pub entries_over : ProgramTerm → Ended → List LateWrite → List run.AnsweredWrite
entries_over p f ws = map (entry_over p f) ws

-- the objects, or what ends the walk
abbrev pub IsFound : rule.FoundOrEnded → Result (List Oid) RunStop → Type 0
IsFound f (Ok os) = f ≡ rule.Objects os
IsFound f (Err (Ends e)) = (rest : Result ℕ End) → run.walk_on f rest ≡ Err e
IsFound f (Err NoMemory) = Unit {0}

-- an entry with its answer and the cost behind it, with which the walk goes on; or what ends it
abbrev pub Steps : ℕ → ℕ → run.AnsweredWrite → Result Entry RunStop → ℕ → Type 0
Steps fuel cost e (Ok x) after = (entry_view x ≡ e) × ((es : List run.AnsweredWrite) → run.walk fuel cost (e ∷ es) ≡ run.walk fuel after es)
Steps fuel cost e (Err (Ends x)) after = (es : List run.AnsweredWrite) → run.walk fuel cost (e ∷ es) ≡ Err x
Steps fuel cost e (Err NoMemory) after = Unit {0}

-- the entries with their answers and the cost behind them, or what ends the walk
abbrev pub Walks : ℕ → ℕ → List run.AnsweredWrite → Result (List Entry) RunStop → ℕ → Type 0
Walks fuel cost es (Ok xs) after = (map entry_view xs ≡ es) × (run.walk fuel cost es ≡ Ok after)
Walks fuel cost es (Err (Ends e)) after = run.walk fuel cost es ≡ Err e
Walks fuel cost es (Err NoMemory) after = Unit {0}
