-- What a call that reads files gave, and what it did to them, by the chain that it follows.
use Rattle.std.specs.Prelude.{ℕ, ◌≡◌, ◌+◌, ◌≤◌, ◌⊎◌, List, [], ◌∷◌, ◌++◌, Result, Ok, Err, Option, Some, option_map}
use Rattle.qvt_base.specs.Outside.{Held, FilesSeen, Rose}
use Rattle.qvt_outcome.specs.Chain.{Chain}
use Rattle.qvt_outcome.specs.Steps.{GivesOrStops, IfFaultOf}
use Rattle.qvt_outcome.specs.declared.stop.Stop.{Stop}
use Rattle.qvt_outcome.specs.declared.stop.Stop.TheVariants as stop

-- a name among others
abbrev pub IsAmong : List ℕ → List (List ℕ) → Type 0
IsAmong name [] = ⊥
IsAmong name (other ∷ names) = (name ≡ other) ⊎ IsAmong name names

abbrev pub with_failed_name : List ℕ → Option (List (List ℕ)) → Option (List (List ℕ))
with_failed_name file told = option_map (λ names. names ++ file ∷ []) told

-- no read failed
pub record NoneFailed (old new : FilesSeen) : Type 0 where
  pub reads : new.reads ≡ old.reads
  pub failed : new.failed ≡ old.failed

-- the read of this file failed, and no other
pub record OneFailed (file : List ℕ) (old new : FilesSeen) : Type 0 where
  pub rose : Rose old.reads new.reads
  pub one : new.reads ≤ old.reads + 1
  pub failed : new.failed ≡ with_failed_name file old.failed

-- no read failed, or one did
abbrev pub AtMostOneFailed : FilesSeen → FilesSeen → Type 0
AtMostOneFailed old new = NoneFailed old new ⊎ ((file : List ℕ) × OneFailed file old new)

-- a read failed where the answer tells so; where there was no memory, none or one
abbrev pub FailedAt : Stop → FilesSeen → FilesSeen → Type 0
FailedAt (stop.Refused file why) old new = NoneFailed old new
FailedAt (stop.Fault line) old new = NoneFailed old new
FailedAt (stop.OutOfFuel fuel) old new = NoneFailed old new
FailedAt (stop.Low model id feature) old new = NoneFailed old new
FailedAt (stop.ReadFault file) old new = OneFailed file old new
FailedAt stop.NoMemory old new = AtMostOneFailed old new

abbrev pub FailedBy : {X : Type 0} → Result X Stop → FilesSeen → FilesSeen → Type 0
FailedBy (Ok x) old new = NoneFailed old new
FailedBy (Err e) old new = FailedAt e old new

-- the answer is the chain's, a file whose read failed is one that it reads, and no bytes change
pub record Follows {X A : Type 0} (view : X → A) (chain : Chain A) (old : FilesSeen) (result : Result X Stop) (new : FilesSeen) : Type 0 where
  pub gives : (held : Held) → old.held ≡ Some held → GivesOrStops view result (chain held).answer
  pub named : (held : Held) → old.held ≡ Some held → IfFaultOf result (λ file. IsAmong file (chain held).names)
  pub reads : FailedBy result old new
  pub held : new.held ≡ old.held
  pub writes : new.writes ≡ old.writes

-- a call that follows the rest from here on follows the whole from there on
abbrev pub Continues : {X A : Type 0} (view : X → A) → Chain A → FilesSeen → Chain A → FilesSeen → Type 0
Continues view whole old rest now = (result : Result _ Stop) (new : FilesSeen) → Follows view rest now result new → Follows view whole old result new
