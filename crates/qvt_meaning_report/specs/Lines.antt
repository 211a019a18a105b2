-- The line that a run tells: of a fault, of the end of the fuel, of a lower bound, or of what was done.
use Rattle.std.specs.Prelude.{ℕ, List, [], ◌∷◌, ◌++◌, length, Option, codes, decimal}
use Rattle.std.specs.List.{flat_map}
use Rattle.qvt_base.specs.declared.numbers.Place.{Place}
use Rattle.qvt_conform.specs.declared.fault.LowFault.{LowFault}
use Rattle.qvt_lines.specs.Lines.{out_of_fuel_line, low_line}
use Rattle.qvt_metamodel.specs.Metamodels.{feature_at}
use Rattle.qvt_model.specs.RunIds.{run_id}
use Rattle.qvt_store.specs.Contents.{Contents, extent_at, extent_of, members_of}
use Rattle.qvt_value.specs.declared.value.Reason.{Reason}
use Rattle.qvt_value.specs.declared.value.Reason.TheVariants as reason
use Rattle.qvt_run_data.specs.declared.fault.RunFault.{RunFault}
use Rattle.qvt_run_data.specs.declared.fault.RunFault.TheVariants as fault
use Rattle.qvt_meaning.specs.Run.{FinishedRun}
use Rattle.qvt_meaning_report.specs.Meaning.{RunOutcome, Fault, OutOfFuel, Low, Done, written_extents}

abbrev pub reason_name : Reason → List ℕ
reason_name reason.Overflow = codes "Overflow"
reason_name reason.ZeroDivide = codes "ZeroDivide"
reason_name reason.BadIndex = codes "BadIndex"
reason_name reason.CastFailed = codes "CastFailed"
reason_name reason.NullSource = codes "NullSource"
reason_name reason.NullValue = codes "NullValue"
reason_name reason.EmptySource = codes "EmptySource"
reason_name reason.BadNumber = codes "BadNumber"
reason_name reason.TooLarge = codes "TooLarge"

-- the kind of a fault; of a value that is invalid with its reason
abbrev pub fault_name : RunFault → List ℕ
fault_name (fault.InvalidValue r) = codes "InvalidValue " ++ reason_name r
fault_name fault.WhenFailed = codes "WhenFailed"
fault_name fault.MappingCycle = codes "MappingCycle"
fault_name fault.NoResult = codes "NoResult"
fault_name fault.TooMany = codes "TooMany"
fault_name fault.ContainmentCycle = codes "ContainmentCycle"
fault_name fault.CrossModel = codes "CrossModel"
fault_name fault.ReadOnly = codes "ReadOnly"
fault_name fault.CallDepth = codes "CallDepth"
fault_name fault.TooManyObjects = codes "TooManyObjects"
fault_name fault.TypeFault = codes "TypeFault"

abbrev pub fault_line : List ℕ → RunFault → Place → List ℕ
fault_line file k at =
    codes "fault: " ++ (file ++ (codes ": " ++ (fault_name k ++ (codes " at " ++ (decimal at.line ++ (codes ":" ++ (decimal at.column ++ 10 ∷ [])))))))

-- an object by its model and its id, and the feature
abbrev pub low_fault_line : Contents → List (Option (List ℕ)) → LowFault → List ℕ
low_fault_line s ids l = low_line (extent_at s (extent_of s l.object.0)).name (run_id s ids l.object.0) (feature_at s.metas l.feature.0).name

-- how many objects the written models have
abbrev pub written_count : Contents → ℕ
written_count s = length (flat_map (members_of s) (written_extents s))

abbrev pub done_line : FinishedRun → List ℕ
done_line f =
    codes "done: " ++ (decimal (written_count f.after) ++ (codes " objects, " ++ (decimal (length f.finish.trace) ++ (codes " records, "
    ++ (decimal (length f.entries) ++ (codes " late, cost " ++ (decimal f.cost ++ 10 ∷ [])))))))

-- the line of what a program means, by the name of its file, its fuel and the ids of the files
abbrev pub line_of : List ℕ → ℕ → List (Option (List ℕ)) → RunOutcome → List ℕ
line_of file fuel ids (Fault k at) = fault_line file k at
line_of file fuel ids OutOfFuel = out_of_fuel_line fuel
line_of file fuel ids (Low s l) = low_fault_line s ids l
line_of file fuel ids (Done f) = done_line f
