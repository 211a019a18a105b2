-- What a program means over a loaded store and with a fuel: a fault, the end of the fuel, the first slot that is under its lower bound, with
-- the store in which it is, or the run that has ended well.
use Rattle.std.specs.Prelude.{ℕ, Bool, ◌&&◌, List, [], ◌∷◌, length, filter, Option, Some, None, Result, Ok, Err}
use Rattle.std.specs.List.{range_with_len}
use Rattle.qvt_base.specs.declared.numbers.Place.{Place}
use Rattle.qvt_conform.specs.LowerBounds.{low_of}
use Rattle.qvt_conform.specs.declared.fault.LowFault.{LowFault}
use Rattle.qvt_json.specs.Steps.{or_next}
use Rattle.qvt_store.specs.Contents.{Contents, extent_at, is_model}
use Rattle.qvt_meaning.specs.Accepts.{ProgramTerm}
use Rattle.qvt_run_data.specs.declared.fault.RunFault.{RunFault}
use Rattle.qvt_run_data.specs.declared.exit.End.{End}
use Rattle.qvt_run_data.specs.declared.exit.End.TheVariants as run
use Rattle.qvt_meaning.specs.Run.{FinishedRun, finished}

pub data RunOutcome : Type 0 where
  Fault : RunFault → Place → RunOutcome
  OutOfFuel : RunOutcome
  Low : Contents → LowFault → RunOutcome
  Done : FinishedRun → RunOutcome

-- The extents that are written: those of models that can be changed.
abbrev pub is_written : Contents → ℕ → Bool
is_written s e = is_model s e && (extent_at s e).writable

abbrev pub written_extents : Contents → List ℕ
written_extents s = filter (is_written s) (range_with_len 0 (length s.extents))

-- the first object of the extents in order, and the first of its features, with fewer items than the lower bound
abbrev pub low_among : Contents → List ℕ → Option LowFault
low_among s [] = None
low_among s (e ∷ es) = or_next (low_of s e) (low_among s es)

unfoldable pub low_in : Contents → Option LowFault
low_in s = low_among s (written_extents s)

abbrev pub unless_low : Option LowFault → FinishedRun → RunOutcome
unless_low (Some fault) f = Low f.after fault
unless_low None f = Done f

abbrev pub outcome_of : Result FinishedRun End → RunOutcome
outcome_of (Err (run.Fault k at)) = Fault k at
outcome_of (Err run.OutOfFuel) = OutOfFuel
outcome_of (Ok f) = unless_low (low_in f.after) f

-- the meaning of a program
unfoldable pub meaning : ProgramTerm → Contents → ℕ → RunOutcome
meaning p store fuel = outcome_of (finished p store fuel)
