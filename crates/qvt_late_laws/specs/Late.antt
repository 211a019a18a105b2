-- What the late assignments of a run that has ended well leave in one slot (QVT 1.3, 8.1.10), where its feature has no opposite and is no
-- containment: no entry for another slot changes it.
use Rattle.std.specs.Prelude.{◌≡◌, ℕ, Bool, List, [], ◌∷◌, ◌++◌, filter, map, Ok, IsTrue}
use Rattle.std.specs.List.{fold}
use Rattle.qvt_metamodel.specs.WellFormed.{IsWellFormed}
use Rattle.qvt_slots.specs.declared.op.SetOp.TheVariants.{Put}
use Rattle.qvt_slots.specs.Contents.{Contents, is_slot, slot_of}
use Rattle.qvt_typing.specs.Accepts.{ProgramTerm}
use Rattle.qvt_value.specs.declared.value.Value.{Obj}
use Rattle.qvt_meaning.specs.Laws.{StandsAlone, is_for, put_in}
use Rattle.qvt_meaning.specs.Run.{AnsweredWrite, FinishedRun, answered, finished, late_value, objects_in}

-- The slot has the list that it had when the last statement was done, changed by the entries for it alone, in order.
abbrev pub RunsPerSlot : Type 0
RunsPerSlot = (p : ProgramTerm) (store : Contents) (fuel : ℕ) (g : FinishedRun) (o f : ℕ) → finished p store fuel ≡ Ok g →
    IsWellFormed g.finish.store.metas → StandsAlone g.finish.store f → IsTrue (is_slot g.finish.store o f) →
    slot_of g.after o f ≡ fold (put_in g.finish.store f) (slot_of g.finish.store o f) (filter (is_for o f) (map late_value g.entries))

abbrev pub is_entry_for : ℕ → ℕ → AnsweredWrite → Bool
is_entry_for o f e = is_for o f (late_value e)

-- Where the last of these is a `:=`, it holds exactly that entry's values, which answer it over the trace and the store that the last
-- statement left.
pub record HoldsAnswer (p : ProgramTerm) (g : FinishedRun) (o f : ℕ) (e : AnsweredWrite) : Type 0 where
  pub answer : e ≡ answered p g.finish e.write
  pub slot : slot_of g.after o f ≡ map Obj (objects_in e.answer.found)

abbrev pub RunsLastPut : Type 0
RunsLastPut = (p : ProgramTerm) (store : Contents) (fuel : ℕ) (g : FinishedRun) (o f : ℕ) (es : List AnsweredWrite) (e : AnsweredWrite) → finished p store fuel ≡ Ok g →
    IsWellFormed g.finish.store.metas → StandsAlone g.finish.store f → IsTrue (is_slot g.finish.store o f) →
    filter (is_entry_for o f) g.entries ≡ es ++ e ∷ [] → e.write.op ≡ Put → HoldsAnswer p g o f e
