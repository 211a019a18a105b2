-- What is to be written: files in order, then a line; and what stands after the writing.
use Rattle.std.specs.Prelude.{ℕ, ◌≡◌, ◌⊎◌, ◌+◌, ◌<◌, ◌≤◌, List, map, take, length, option_map}
use Rattle.std.specs.List.{AllByRecursion}
use Rattle.qvt_base.specs.Outside.{FilesSeen, Rose, SameBut, BothTold}
use Rattle.qvt_outcome.specs.Outcome.{Outcome, done, File, put_all, write_fault_line}
use Rattle.qvt_outcome.specs.Follows.{NoneFailed}
use Rattle.qvt_outcome.specs.Reported.{OutsideSeen, Reports, name_at}
use Rattle.qvt_outcome.specs.declared.plan.Output.{Output}
use Rattle.qvt_outcome.specs.declared.plan.Plan.{Plan}
use Rattle.qvt_outcome.specs.declared.status.Status.{Status}
use Rattle.qvt_outcome.specs.declared.status.Status.TheVariants as status

abbrev pub file_of : Output → File
file_of o = (o.file, o.bytes)

abbrev pub files_in : List Output → List File
files_in outputs = map file_of outputs

abbrev pub outcome_of : Plan → Outcome
outcome_of p = done (files_in p.outputs) p.line

-- each file has the line that tells of its failure
abbrev pub HaveFaultLines : List Output → Type 0
HaveFaultLines outputs = AllByRecursion (λ o. o.fault_line ≡ write_fault_line o.file) outputs

-- all were written
pub record AllWritten (files : List File) (old new : FilesSeen) : Type 0 where
  pub held : new.held ≡ option_map (put_all files) old.held
  pub reads : NoneFailed old new
  pub writes : new.writes ≡ old.writes

-- while file number k was written its bytes failed: the earlier ones are whole, all but that name is as before, and no more was written
pub record StoppedAt (files : List File) (k : ℕ) (old new : FilesSeen) : Type 0 where
  pub within : k < length files
  pub held : BothTold (λ before now. SameBut (name_at files k) (put_all (take k files) before) now) old.held new.held
  pub reads : NoneFailed old new
  pub rose : Rose old.writes new.writes
  pub one : new.writes ≤ old.writes + 1

-- all files were written, and the line sent; or one failed, and its line was sent
abbrev pub CarriedOut : Plan → OutsideSeen → OutsideSeen → Status → Type 0
CarriedOut p old new answer =
    (AllWritten (files_in p.outputs) old.files new.files × Reports p.line status.Done old.sink new.sink answer)
    ⊎ ((k : ℕ) × StoppedAt (files_in p.outputs) k old.files new.files
    × Reports (write_fault_line (name_at (files_in p.outputs) k)) status.WriteFault old.sink new.sink answer)
