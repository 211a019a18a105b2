-- Files and the sink as they tell what they hold: each optionally, with counts of faults that never fall.
use Rattle.std.specs.Prelude.{ℕ, ◌+◌, ◌-◌, ◌^◌, ◌≤◌, ◌<◌, ◌≡◌, ◌≢◌, ⊤, List, [], ◌∷◌, ◌++◌, length, take, nat_le, if◌then◌else◌, Option, Some, None, option_map, IfSome, min}
use Rattle.std.specs.Ordering.{nat_cmp}
use Rattle.std.specs.Cmp.Lexicographic.{slice_cmp}
use Rattle.std.specs.FinMap as map
use Rattle.qvt_base.specs.declared.outside.ReadAnswer.{ReadAnswer}
use Rattle.qvt_base.specs.declared.outside.ReadAnswer.TheVariants as read
use Rattle.qvt_base.specs.declared.outside.WriteAnswer.{WriteAnswer}
use Rattle.qvt_base.specs.declared.outside.WriteAnswer.TheVariants as write
use Rattle.qvt_base.specs.declared.outside.SinkAnswer.{SinkAnswer}
use Rattle.qvt_base.specs.declared.outside.SinkAnswer.TheVariants as sink

-- a finite map from names to bytes
abbrev pub Held : Type 0
Held = map.FinMap (slice_cmp nat_cmp) (List ℕ)

-- what files tell of themselves: what they hold and the names of the reads that failed, where they tell these, and how many reads and
-- writes failed
pub record FilesSeen : Type 0 where
  pub held : Option Held
  pub failed : Option (List (List ℕ))
  pub reads : ℕ
  pub writes : ℕ

-- what a sink tells of itself: the bytes written, where it tells them, and how many writes failed
pub record SinkSeen : Type 0 where
  pub written : Option (List ℕ)
  pub faults : ℕ

-- a count rose: it is greater than before, or stands at the greatest number of 64 bits
abbrev pub Rose : ℕ → ℕ → Type 0
Rose before now = min (before + 1) (2 ^ 64 - 1) ≤ now

-- a count never falls, and rises only to the greatest number of 64 bits
pub record NeverFalls (before now : ℕ) : Type 0 where
  pub later : before ≤ now
  pub fits : before < 2 ^ 64 → now < 2 ^ 64

-- what stands under a name, read within a limit
pub data Look : Type 0 where
  found : List ℕ → Look
  missing : Look
  too_large : Look

abbrev pub within : ℕ → Option (List ℕ) → Look
within limit None = missing
within limit (Some bytes) = if nat_le (length bytes) limit then found bytes else too_large

abbrev pub look : Held → List ℕ → ℕ → Look
look held name limit = within limit (map.get held name)

-- where the files tell what they hold, an answer that is no failure is what stands under the name
abbrev pub AnswersRead : Option Held → List ℕ → ℕ → ReadAnswer → Type 0
AnswersRead told name limit (read.Found bytes) = IfSome told (λ held. look held name limit ≡ found bytes)
AnswersRead told name limit read.Missing = IfSome told (λ held. look held name limit ≡ missing)
AnswersRead told name limit read.TooLarge = IfSome told (λ held. look held name limit ≡ too_large)
AnswersRead told name limit read.Failed = ⊤
AnswersRead told name limit read.NoMemory = ⊤

-- never more bytes than the limit, whether told or not
abbrev pub IsWithin : ℕ → ReadAnswer → Type 0
IsWithin limit (read.Found bytes) = length bytes ≤ limit
IsWithin limit read.Missing = ⊤
IsWithin limit read.TooLarge = ⊤
IsWithin limit read.Failed = ⊤
IsWithin limit read.NoMemory = ⊤

-- a reader that tells its bytes is read to its end: they are all that was found, or more than the limit
abbrev pub ReadsRest : Option (List ℕ) → ℕ → ReadAnswer → Type 0
ReadsRest rest limit (read.Found bytes) = IfSome rest (λ all. all ≡ bytes)
ReadsRest rest limit read.Missing = ⊥
ReadsRest rest limit read.TooLarge = IfSome rest (λ all. limit < length all)
ReadsRest rest limit read.Failed = ⊤
ReadsRest rest limit read.NoMemory = ⊤

-- the failed reads, the last at the end
abbrev pub failed_after : Option (List (List ℕ)) → List ℕ → ReadAnswer → Option (List (List ℕ))
failed_after told name (read.Found bytes) = told
failed_after told name read.Missing = told
failed_after told name read.TooLarge = told
failed_after told name read.Failed = option_map (λ names. names ++ name ∷ []) told
failed_after told name read.NoMemory = told

abbrev pub IfReadFailed : ReadAnswer → Type 0 → Type 0
IfReadFailed (read.Found bytes) P = ⊤
IfReadFailed read.Missing P = ⊤
IfReadFailed read.TooLarge P = ⊤
IfReadFailed read.Failed P = P
IfReadFailed read.NoMemory P = ⊤

-- every answer but a failed read
abbrev pub UnlessReadFailed : ReadAnswer → Type 0 → Type 0
UnlessReadFailed (read.Found bytes) P = P
UnlessReadFailed read.Missing P = P
UnlessReadFailed read.TooLarge P = P
UnlessReadFailed read.Failed P = ⊤
UnlessReadFailed read.NoMemory P = P

-- a failed read exactly where the count rose, by one
pub record ReadCause (before now : ℕ) (answer : ReadAnswer) : Type 0 where
  pub count : NeverFalls before now
  pub failed : IfReadFailed answer (Rose before now)
  pub one : now ≤ before + 1
  pub kept : UnlessReadFailed answer (now ≡ before)

-- a read of a name within a limit: no bytes change
pub record IsRead (old : FilesSeen) (name : List ℕ) (limit : ℕ) (answer : ReadAnswer) (new : FilesSeen) : Type 0 where
  pub found : AnswersRead old.held name limit answer
  pub within : IsWithin limit answer
  pub held : new.held ≡ old.held
  pub failed : new.failed ≡ failed_after old.failed name answer
  pub cause : ReadCause old.reads new.reads answer
  pub writes : new.writes ≡ old.writes

-- every name but this one is as before
abbrev pub SameBut : List ℕ → Held → Held → Type 0
SameBut name old new = (other : List ℕ) → other ≢ name → map.get new other ≡ map.get old other

-- both told and related, or both untold
abbrev pub BothTold : {A : Type 0} → (A → A → Type 0) → Option A → Option A → Type 0
BothTold R None None = ⊤
BothTold R None (Some new) = ⊥
BothTold R (Some old) None = ⊥
BothTold R (Some old) (Some new) = R old new

-- the name holds exactly these bytes and all else is as before; after a failure that name may hold anything
abbrev pub Writes : Option Held → List ℕ → List ℕ → Option Held → WriteAnswer → Type 0
Writes old name bytes new write.Written = new ≡ option_map (λ held. map.insert held name bytes) old
Writes old name bytes new write.Failed = BothTold (SameBut name) old new

abbrev pub IfWriteFailed : WriteAnswer → Type 0 → Type 0
IfWriteFailed write.Written P = ⊤
IfWriteFailed write.Failed P = P

abbrev pub IfWritten : WriteAnswer → Type 0 → Type 0
IfWritten write.Written P = P
IfWritten write.Failed P = ⊤

-- a failed write exactly where the count rose, by one
pub record WriteCause (before now : ℕ) (answer : WriteAnswer) : Type 0 where
  pub count : NeverFalls before now
  pub failed : IfWriteFailed answer (Rose before now)
  pub one : now ≤ before + 1
  pub kept : IfWritten answer (now ≡ before)

-- a write of bytes to a name
pub record IsWritten (old : FilesSeen) (name bytes : List ℕ) (answer : WriteAnswer) (new : FilesSeen) : Type 0 where
  pub held : Writes old.held name bytes new.held answer
  pub failed : new.failed ≡ old.failed
  pub cause : WriteCause old.writes new.writes answer
  pub reads : new.reads ≡ old.reads

-- at most the piece, and some of a piece that is not empty
abbrev pub IsPart : List ℕ → SinkAnswer → Type 0
IsPart piece (sink.Taken n) = (n ≤ length piece) × (0 < length piece → 0 < n)
IsPart piece sink.Failed = ⊤

abbrev pub part_of : List ℕ → SinkAnswer → List ℕ
part_of piece (sink.Taken n) = take n piece
part_of piece sink.Failed = []

abbrev pub written_after : Option (List ℕ) → List ℕ → SinkAnswer → Option (List ℕ)
written_after told piece answer = option_map (λ bytes. bytes ++ part_of piece answer) told

abbrev pub IfSinkFailed : SinkAnswer → Type 0 → Type 0
IfSinkFailed (sink.Taken n) P = ⊤
IfSinkFailed sink.Failed P = P

abbrev pub IfTaken : SinkAnswer → Type 0 → Type 0
IfTaken (sink.Taken n) P = P
IfTaken sink.Failed P = ⊤

-- a failed write to a sink exactly where the count rose, by one
pub record SinkCause (before now : ℕ) (answer : SinkAnswer) : Type 0 where
  pub count : NeverFalls before now
  pub failed : IfSinkFailed answer (Rose before now)
  pub one : now ≤ before + 1
  pub kept : IfTaken answer (now ≡ before)

-- a write of a piece to a sink
pub record IsSent (old : SinkSeen) (piece : List ℕ) (answer : SinkAnswer) (new : SinkSeen) : Type 0 where
  pub part : IsPart piece answer
  pub taken : new.written ≡ written_after old.written piece answer
  pub cause : SinkCause old.faults new.faults answer
