-- The laws of the words of a command line that ask for a run and come to a value, over the bytes that the files hold.
use Rattle.std.specs.Prelude.{◌≡◌, ℕ, List, Some, IsOk}
use Rattle.qvt_base.specs.Outside.{Held}
use Rattle.qvt_work.specs.Conforming.{ModelsConform, RunConforms}
use Rattle.qvt_work.specs.Fuel.{HasExactCost}
use Rattle.qvt_work.specs.Recorded.{HasOneRecordEach}
use Rattle.qvt_work.specs.Runs.{IsOfRun}
use Rattle.qvt_work.specs.Words.{run, command_of}
use Rattle.qvt_work.specs.Work.{work}

-- the models of the run behind it conform, where those of the job's file do
abbrev pub RunsConform : Type 0
RunsConform = (words : List (List ℕ)) (held : Held) → IsOk (work words held).answer → ((file : List ℕ) → command_of words ≡ Some (run file) → RunConforms file held)
    → IsOfRun words held ModelsConform

-- its trace has one record of a key
abbrev pub RunsAreRecorded : Type 0
RunsAreRecorded = (words : List (List ℕ)) (held : Held) → IsOk (work words held).answer → IsOfRun words held HasOneRecordEach

-- its cost is exact
abbrev pub RunsAreExact : Type 0
RunsAreExact = (words : List (List ℕ)) (held : Held) → IsOk (work words held).answer → IsOfRun words held (HasExactCost held)
