-- What files in memory hold: under each name the newest bytes written there.
use Rattle.std.specs.Prelude.{ℕ, ◌+◌, ◌-◌, ◌^◌, ◌==◌, ◌≢◌, ◌≡◌, List, map, min, ⊤, Bool, true, false, Some}
use Rattle.std.specs.List.{list_any}
use Rattle.std.specs.FinMap as finite
use Rattle.qvt_base.specs.Outside.{Held, FilesSeen}
use Rattle.qvt_base.specs.declared.mem_files.HeldFile.{HeldFile}
use Rattle.qvt_base.specs.declared.outside.ReadAnswer.{ReadAnswer}
use Rattle.qvt_base.specs.declared.outside.ReadAnswer.TheVariants as read
use Rattle.qvt_base.specs.declared.outside.WriteAnswer.{WriteAnswer}
use Rattle.qvt_base.specs.declared.outside.WriteAnswer.TheVariants as write

-- names and the bytes written there, the newest first
abbrev pub Log : Type 0
Log = List (List ℕ × List ℕ)

-- under each name the newest bytes
abbrev pub held_of : Log → Held
held_of log = finite.from_entries log

abbrev pub pairs : List HeldFile → Log
pairs entries = map (λ e. (e.name, e.bytes)) entries

-- files in memory: what was written, the numbers of the calls that are to fail, how many calls there were, the names of the failed reads,
-- and how many reads and writes failed
pub record FilesInMemory : Type 0 where
  pub log : Log
  pub failing : List ℕ
  pub calls : ℕ
  pub failed : List (List ℕ)
  pub read_faults : ℕ
  pub write_faults : ℕ

abbrev pub held_in : FilesInMemory → Held
held_in f = held_of f.log

-- they tell all
abbrev pub files_seen : FilesInMemory → FilesSeen
files_seen f = record { held = Some (held_in f); failed = Some f.failed; reads = f.read_faults; writes = f.write_faults }

-- neither bytes nor a look-up
abbrev pub IsUnread : ReadAnswer → Type 0
IsUnread (read.Found bytes) = ⊥
IsUnread read.Missing = ⊥
IsUnread read.TooLarge = ⊥
IsUnread read.Failed = ⊤
IsUnread read.NoMemory = ⊤

-- the number of the coming call, the first being 1; it stops at the greatest number of 64 bits
abbrev pub next_call : ℕ → ℕ
next_call calls = min (calls + 1) (2 ^ 64 - 1)

abbrev pub is_listed : List ℕ → ℕ → Bool
is_listed numbers call = list_any (λ number. number == call) numbers

-- the coming call stands in the list of those that are to fail
abbrev pub is_to_fail : FilesInMemory → Bool
is_to_fail f = is_listed f.failing (next_call f.calls)

abbrev pub after_call : FilesInMemory → FilesInMemory
after_call f = record f { calls = next_call f.calls }

-- a read that is to fail gives nothing, and no other read fails
abbrev pub FailsAsListed : Bool → ReadAnswer → Type 0
FailsAsListed true answer = IsUnread answer
FailsAsListed false answer = answer ≢ read.Failed

-- a write that is to fail fails
abbrev pub FailsWhereListed : Bool → WriteAnswer → Type 0
FailsWhereListed true answer = answer ≡ write.Failed
FailsWhereListed false answer = ⊤
