-- The code's early ends, and what they say of what is stated.
use Rattle.std.specs.Prelude.{ℕ, ◌≡◌, ◌≢◌, ⊤, List, Result, Ok, Err}
use Rattle.qvt_lines.specs.Lines.{out_of_fuel_line, low_line}
use Rattle.qvt_outcome.specs.Outcome.{Outcome, refused, fault, out_of_fuel, low, refused_line, read_fault_line, no_memory_line}
use Rattle.qvt_outcome.specs.declared.stop.Stop.{Stop}
use Rattle.qvt_outcome.specs.declared.stop.Stop.TheVariants as stop
use Rattle.qvt_outcome.specs.declared.refusal.Refusal.{Refusal}
use Rattle.qvt_outcome.specs.declared.status.Status.{Status}
use Rattle.qvt_outcome.specs.declared.status.Status.TheVariants as status

-- what is read of a file, or its refusal by the fault
abbrev pub or_refused : {A F : Type 0} → (F → Refusal) → List ℕ → Result A F → Result A Outcome
or_refused say name (Ok x) = Ok x
or_refused say name (Err why) = Err (refused name (say why))

-- an early end of the code is an early end of what is stated; a failed read and want of memory say nothing of it
abbrev pub Stops : {A : Type 0} → Stop → Result A Outcome → Type 0
Stops (stop.Refused file why) stated = stated ≡ Err (refused file why)
Stops (stop.Fault line) stated = stated ≡ Err (fault line)
Stops (stop.OutOfFuel fuel) stated = stated ≡ Err (out_of_fuel fuel)
Stops (stop.Low model id feature) stated = stated ≡ Err (low model id feature)
Stops (stop.ReadFault file) stated = ⊤
Stops stop.NoMemory stated = ⊤

-- what the code gave, seen by view, is what is stated
abbrev pub GivesOrStops : {X A : Type 0} → (X → A) → Result X Stop → Result A Outcome → Type 0
GivesOrStops view (Ok x) stated = stated ≡ Ok (view x)
GivesOrStops view (Err e) stated = Stops e stated

-- of a failed read, its file
abbrev pub IsFaultWith : Stop → (List ℕ → Type 0) → Type 0
IsFaultWith (stop.Refused file why) P = ⊤
IsFaultWith (stop.Fault line) P = ⊤
IsFaultWith (stop.OutOfFuel fuel) P = ⊤
IsFaultWith (stop.Low model id feature) P = ⊤
IsFaultWith (stop.ReadFault file) P = P file
IsFaultWith stop.NoMemory P = ⊤

abbrev pub IfFaultOf : {X : Type 0} → Result X Stop → (List ℕ → Type 0) → Type 0
IfFaultOf (Ok x) P = ⊤
IfFaultOf (Err e) P = IsFaultWith e P

-- the line and the status of an early end
abbrev pub stop_line : Stop → List ℕ
stop_line (stop.Refused file why) = refused_line file why
stop_line (stop.Fault line) = line
stop_line (stop.OutOfFuel fuel) = out_of_fuel_line fuel
stop_line (stop.Low model id feature) = low_line model id feature
stop_line (stop.ReadFault file) = read_fault_line file
stop_line stop.NoMemory = no_memory_line

abbrev pub stop_status : Stop → Status
stop_status (stop.Refused file why) = status.Refused
stop_status (stop.Fault line) = status.Fault
stop_status (stop.OutOfFuel fuel) = status.OutOfFuel
stop_status (stop.Low model id feature) = status.Low
stop_status (stop.ReadFault file) = status.ReadFault
stop_status stop.NoMemory = status.NoMemory

-- the outcome that the steps end with
abbrev pub settled : Result Outcome Outcome → Outcome
settled (Ok o) = o
settled (Err o) = o

-- the refusal of this file, unless there was no memory for its name
abbrev pub RefusedOrNoMemory : List ℕ → Refusal → Stop → Type 0
RefusedOrNoMemory file why (stop.Refused name cause) = (name ≡ file) × (cause ≡ why)
RefusedOrNoMemory file why (stop.Fault line) = ⊥
RefusedOrNoMemory file why (stop.OutOfFuel fuel) = ⊥
RefusedOrNoMemory file why (stop.Low model id feature) = ⊥
RefusedOrNoMemory file why (stop.ReadFault name) = ⊥
RefusedOrNoMemory file why stop.NoMemory = ⊤

abbrev pub ReadFaultOrNoMemory : List ℕ → Stop → Type 0
ReadFaultOrNoMemory file (stop.Refused name cause) = ⊥
ReadFaultOrNoMemory file (stop.Fault line) = ⊥
ReadFaultOrNoMemory file (stop.OutOfFuel fuel) = ⊥
ReadFaultOrNoMemory file (stop.Low model id feature) = ⊥
ReadFaultOrNoMemory file (stop.ReadFault name) = name ≡ file
ReadFaultOrNoMemory file stop.NoMemory = ⊤

-- the refusal of this file by the fault, or want of memory
abbrev pub StopsBy : {F : Type 0} → F → (F → Refusal) → List ℕ → F → Stop → Type 0
StopsBy free say name why end = (why ≢ free → RefusedOrNoMemory name (say why) end) × (why ≡ free → end ≡ stop.NoMemory)
