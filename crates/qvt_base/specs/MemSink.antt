-- What a sink in memory holds, which of its calls fail, and how much it takes at once.
use Rattle.std.specs.Prelude.{ℕ, ◌≡◌, List, length, min, ⊤, Bool, true, false, Some}
use Rattle.qvt_base.specs.Outside.{SinkSeen}
use Rattle.qvt_base.specs.MemFiles.{next_call, is_listed}
use Rattle.qvt_base.specs.declared.outside.SinkAnswer.{SinkAnswer}
use Rattle.qvt_base.specs.declared.outside.SinkAnswer.TheVariants as sink

-- a sink in memory: its bytes, the numbers of the calls that are to fail, how many calls there were, the most bytes of a call, and how
-- many calls failed
pub record SinkInMemory : Type 0 where
  pub bytes : List ℕ
  pub failing : List ℕ
  pub calls : ℕ
  pub most : ℕ
  pub faults : ℕ

-- it tells all
abbrev pub sink_seen : SinkInMemory → SinkSeen
sink_seen s = record { written = Some s.bytes; faults = s.faults }

-- the coming call stands in the list of those that are to fail
abbrev pub is_to_fail : SinkInMemory → Bool
is_to_fail s = is_listed s.failing (next_call s.calls)

abbrev pub after_call : SinkInMemory → SinkInMemory
after_call s = record s { calls = next_call s.calls }

-- a write that is to fail fails
abbrev pub SinkFailsWhereListed : Bool → SinkAnswer → Type 0
SinkFailsWhereListed true answer = answer ≡ sink.Failed
SinkFailsWhereListed false answer = ⊤

-- what is taken is all of the piece, or as much as is taken at once
abbrev pub TakesMost : ℕ → List ℕ → SinkAnswer → Type 0
TakesMost most piece (sink.Taken n) = n ≡ min (length piece) most
TakesMost most piece sink.Failed = ⊤
