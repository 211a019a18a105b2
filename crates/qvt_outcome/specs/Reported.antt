-- What stands after a call: what the files and the sink tell of themselves before and after it, and what each status promises of that.
use Rattle.std.specs.Prelude.{ℕ, ◌≡◌, ◌⊎◌, ◌+◌, ◌<◌, ◌≤◌, List, [], ◌++◌, length, take, Option, Some, option_map, slice_index_or}
use Rattle.qvt_base.specs.Outside.{Held, FilesSeen, SinkSeen, Rose, SameBut}
use Rattle.qvt_outcome.specs.Follows.{IsAmong, NoneFailed, OneFailed, AtMostOneFailed}
use Rattle.qvt_outcome.specs.Outcome.{Outcome, File, status_of, report, files_of, files_after, put_all, read_fault_line, write_fault_line, no_memory_line}
use Rattle.qvt_outcome.specs.declared.status.Status.{Status}
use Rattle.qvt_outcome.specs.declared.status.Status.TheVariants as status

-- the files and the sink, as they tell of themselves
pub record OutsideSeen : Type 0 where
  pub files : FilesSeen
  pub sink : SinkSeen

abbrev pub outside : FilesSeen → SinkSeen → OutsideSeen
outside files sink = record { files = files; sink = sink }

abbrev pub appended : List ℕ → Option (List ℕ) → Option (List ℕ)
appended text told = option_map (λ bytes. bytes ++ text) told

-- the whole text went to the sink
pub record IsWhole (text : List ℕ) (old new : SinkSeen) : Type 0 where
  pub written : new.written ≡ appended text old.written
  pub faults : new.faults ≡ old.faults

-- a front of the text went to the sink, and then the sink failed
pub record IsCut (text : List ℕ) (old new : SinkSeen) : Type 0 where
  pub front : ℕ
  pub written : new.written ≡ appended (take front text) old.written
  pub rose : Rose old.faults new.faults
  pub one : new.faults ≤ old.faults + 1

-- a text went to the sink whole, and this status is answered; or the sink failed on the way
abbrev pub Reports : List ℕ → Status → SinkSeen → SinkSeen → Status → Type 0
Reports text told old new answer = ((answer ≡ told) × IsWhole text old new) ⊎ ((answer ≡ status.WriteFault) × IsCut text old new)

-- a read failed: the line names its file
pub record IsReadFault (old new : OutsideSeen) : Type 0 where
  pub file : List ℕ
  pub failed : OneFailed file old.files new.files
  pub line : IsWhole (read_fault_line file) old.sink new.sink
  pub writes : new.files.writes ≡ old.files.writes

-- there was no memory: the line tells so, no write failed, and at most one read
pub record IsMemoryFault (old new : OutsideSeen) : Type 0 where
  pub line : IsWhole no_memory_line old.sink new.sink
  pub reads : AtMostOneFailed old.files new.files
  pub writes : new.files.writes ≡ old.files.writes

-- one write failed, and no read
pub record IsWriteFault (old new : OutsideSeen) : Type 0 where
  pub reads : NoneFailed old.files new.files
  pub rose : Rose old.files.writes new.files.writes
  pub one : new.files.writes ≤ old.files.writes + 1

-- the sink failed once, no write did, and at most one read
pub record IsSinkFault (old new : OutsideSeen) : Type 0 where
  pub reads : AtMostOneFailed old.files new.files
  pub writes : new.files.writes ≡ old.files.writes
  pub rose : Rose old.sink.faults new.sink.faults
  pub one : new.sink.faults ≤ old.sink.faults + 1

-- nothing failed
pub record NothingFailed (old new : OutsideSeen) : Type 0 where
  pub reads : NoneFailed old.files new.files
  pub writes : new.files.writes ≡ old.files.writes
  pub faults : new.sink.faults ≡ old.sink.faults

-- no count rose
pub record NoneRose (old new : OutsideSeen) : Type 0 where
  pub reads : ¬ Rose old.files.reads new.files.reads
  pub writes : ¬ Rose old.files.writes new.files.writes
  pub sinks : ¬ Rose old.sink.faults new.sink.faults

-- the answer is the outcome's own: the files and the sink are as it says
pub record TellsOutcome (o : Outcome) (before : Held) (old new : OutsideSeen) (answer : Status) : Type 0 where
  pub status : answer ≡ status_of o
  pub held : new.files.held ≡ Some (files_after o before)
  pub sink : IsWhole (report o) old.sink new.sink

-- a read failed: the line names a file that was to be read, and nothing else changed
pub record TellsReadFault (names : List (List ℕ)) (before : Held) (old new : OutsideSeen) : Type 0 where
  pub held : new.files.held ≡ Some before
  pub file : List ℕ
  pub among : IsAmong file names
  pub failed : OneFailed file old.files new.files
  pub sink : IsWhole (read_fault_line file) old.sink new.sink

pub record TellsNoMemory (before : Held) (old new : OutsideSeen) : Type 0 where
  pub held : new.files.held ≡ Some before
  pub sink : IsWhole no_memory_line old.sink new.sink

abbrev pub name_at : List File → ℕ → List ℕ
name_at files k = (slice_index_or files k ([], [])).0

-- while file number k was written its bytes failed: the earlier ones are whole, and all but that name is as before;
-- the sink has its line, or where the sink failed too a front of it
pub record FileFailed (o : Outcome) (before : Held) (old new : OutsideSeen) : Type 0 where
  pub done : status_of o ≡ status.Done
  pub number : ℕ
  pub within : number < length (files_of o)
  pub now : Held
  pub held : new.files.held ≡ Some now
  pub others : SameBut (name_at (files_of o) number) (put_all (take number (files_of o)) before) now
  pub reads : NoneFailed old.files new.files
  pub rose : Rose old.files.writes new.files.writes
  pub one : new.files.writes ≤ old.files.writes + 1
  pub sink : IsWhole (write_fault_line (name_at (files_of o) number)) old.sink new.sink ⊎ IsCut (write_fault_line (name_at (files_of o) number)) old.sink new.sink

-- the sink failed on the outcome's own text
pub record ReportFailed (o : Outcome) (before : Held) (old new : OutsideSeen) : Type 0 where
  pub held : new.files.held ≡ Some (files_after o before)
  pub reads : NoneFailed old.files new.files
  pub writes : new.files.writes ≡ old.files.writes
  pub sink : IsCut (report o) old.sink new.sink

-- the sink failed on the line of a read that failed
pub record ReadLineFailed (names : List (List ℕ)) (before : Held) (old new : OutsideSeen) : Type 0 where
  pub held : new.files.held ≡ Some before
  pub file : List ℕ
  pub among : IsAmong file names
  pub failed : OneFailed file old.files new.files
  pub writes : new.files.writes ≡ old.files.writes
  pub sink : IsCut (read_fault_line file) old.sink new.sink

-- the sink failed on the line that memory was wanting
pub record MemoryLineFailed (before : Held) (old new : OutsideSeen) : Type 0 where
  pub held : new.files.held ≡ Some before
  pub reads : AtMostOneFailed old.files new.files
  pub writes : new.files.writes ≡ old.files.writes
  pub sink : IsCut no_memory_line old.sink new.sink

-- what stands after each answer, where the files tell what they hold
abbrev pub Answers : Outcome → List (List ℕ) → Held → OutsideSeen → OutsideSeen → Status → Type 0
Answers o names before old new status.ReadFault = TellsReadFault names before old new
Answers o names before old new status.WriteFault =
    FileFailed o before old new ⊎ (ReportFailed o before old new ⊎ (ReadLineFailed names before old new ⊎ MemoryLineFailed before old new))
Answers o names before old new status.NoMemory = TellsNoMemory before old new
Answers o names before old new status.Done = TellsOutcome o before old new status.Done
Answers o names before old new status.Refused = TellsOutcome o before old new status.Refused
Answers o names before old new status.Usage = TellsOutcome o before old new status.Usage
Answers o names before old new status.Fault = TellsOutcome o before old new status.Fault
Answers o names before old new status.OutOfFuel = TellsOutcome o before old new status.OutOfFuel
Answers o names before old new status.Low = TellsOutcome o before old new status.Low

-- what fails shows in the answer: where it tells of no read, no write, no sink and no want of memory, none failed
abbrev pub Fails : OutsideSeen → OutsideSeen → Status → Type 0
Fails old new status.ReadFault = IsReadFault old new
Fails old new status.WriteFault = IsWriteFault old new ⊎ IsSinkFault old new
Fails old new status.NoMemory = IsMemoryFault old new
Fails old new status.Done = NothingFailed old new
Fails old new status.Refused = NothingFailed old new
Fails old new status.Usage = NothingFailed old new
Fails old new status.Fault = NothingFailed old new
Fails old new status.OutOfFuel = NothingFailed old new
Fails old new status.Low = NothingFailed old new
