-- A run changes no object of a model of direction in (QVT 1.3, 8.2.1.5 ModelParameter): each is there, of its class, in its extent, with its
-- slots and in its container. (That no object is made in such a model is asked of a program by its typing.)
use Rattle.std.specs.Prelude.{◌≡◌, ℕ, Ok, IsTrue, IsFalse}
use Rattle.qvt_metamodel.specs.Metamodels.{is_containment}
use Rattle.qvt_slots.specs.Slots.{has}
use Rattle.qvt_slots.specs.Contents.{Contents, is_live, is_writable, slot_of}
use Rattle.qvt_store_laws.specs.Sound.{Sound}
use Rattle.qvt_store_laws.specs.Stay.{IsStore, InputsStay}
use Rattle.qvt_typing.specs.Accepts.{ProgramTerm}
use Rattle.qvt_meaning.specs.Laws.{request_run}
use Rattle.qvt_meaning.specs.Run.{FinishedRun, finished}

-- the models of direction in are those whose extents are not writable
pub record InputsAreKept (s t : Contents) : Type 0 where
  pub metas : t.metas ≡ s.metas
  -- their objects are there, each with its class, its extent and its slots
  pub objects : InputsStay s t
  -- and each stands in a containment slot exactly where it stood
  pub containers : (x y f : ℕ) → IsTrue (is_live s x) → IsFalse (is_writable s x) → IsTrue (is_containment s.metas f) → has (slot_of t y f) x ≡ has (slot_of s y f) x

-- in whatever state `main` ends, and for whatever reason
abbrev pub MainKeepsInputs : Type 0
MainKeepsInputs = (p : ProgramTerm) (fuel : ℕ) (store : Contents) → IsStore store → Sound store → InputsAreKept store (request_run p fuel store).1.store

-- where a run has ended well, in the store that `main` left, and in the one with the late entries carried out
abbrev pub RunsKeepInputs : Type 0
RunsKeepInputs = (p : ProgramTerm) (store : Contents) (fuel : ℕ) (f : FinishedRun) → IsStore store → Sound store → finished p store fuel ≡ Ok f →
    InputsAreKept store f.finish.store × InputsAreKept store f.after
