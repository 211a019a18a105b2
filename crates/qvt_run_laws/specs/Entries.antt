-- What a late assignment keeps fits its slot (QVT 1.3, 8.1.10): the slot is there, and the class that is looked for conforms to the type of
-- the slot. So the objects that answer it can be assigned to the slot.
use Rattle.std.specs.Prelude.{◌≡◌, ℕ, map, Ok, IsTrue}
use Rattle.std.specs.List.{All}
use Rattle.qvt_metamodel.specs.Metamodels.{shape_of}
use Rattle.qvt_metamodel.specs.Descends.{is_class_kind}
use Rattle.qvt_metamodel.specs.WellFormed.{IsWellFormed}
use Rattle.qvt_slots.specs.Contents.{Contents, is_slot}
use Rattle.qvt_slots.specs.Types.{IsAssignable}
use Rattle.qvt_typing.specs.Accepts.{ProgramTerm}
use Rattle.qvt_value.specs.declared.value.Value.{Obj}
use Rattle.qvt_run_data.specs.declared.late.LateWrite.{LateWrite}
use Rattle.qvt_meaning.specs.Laws.{request_run}
use Rattle.qvt_meaning.specs.Run.{Finish, AnsweredWrite, FinishedRun, answered, finished, late_value}

-- the slot is there, and objects of the class are of its type
pub record IsFor (s : Contents) (w : LateWrite) : Type 0 where
  pub slot : IsTrue (is_slot s w.object.0 w.feature.0)
  pub class : IsTrue (is_class_kind s.metas w.request.class.0 (shape_of s.metas w.feature.0).kind)

-- in whatever state `main` ends, what late assignments have kept fits its slots
abbrev pub RequestsFit : Type 0
RequestsFit = (p : ProgramTerm) (fuel : ℕ) (store : Contents) → All (IsFor (request_run p fuel store).1.store) (request_run p fuel store).1.entries

-- what answers it over a trace and a store can be assigned
abbrev pub CanBeWritten : Contents → AnsweredWrite → Type 0
CanBeWritten s e = IsAssignable s (late_value e).object.0 (late_value e).feature.0 (map Obj (late_value e).values)

abbrev pub AnswersFit : Type 0
AnswersFit = (p : ProgramTerm) (f : Finish) (w : LateWrite) → IsWellFormed f.store.metas → IsFor f.store w → CanBeWritten f.store (answered p f w)

-- so each entry of a run that has ended well can be written into the store that `main` left
abbrev pub EntriesFit : Type 0
EntriesFit = (p : ProgramTerm) (store : Contents) (fuel : ℕ) (f : FinishedRun) → finished p store fuel ≡ Ok f → IsWellFormed f.finish.store.metas → All (CanBeWritten f.finish.store) f.entries
