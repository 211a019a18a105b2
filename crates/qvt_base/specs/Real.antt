-- What is known of the working folder and of standard output: how many of their calls failed.
use Rattle.std.specs.Prelude.{ℕ, None}
use Rattle.qvt_base.specs.Outside.{FilesSeen, SinkSeen}

pub record FaultCounts : Type 0 where
  pub reads : ℕ
  pub writes : ℕ

-- the folder tells nothing else
abbrev pub folder_seen : FaultCounts → FilesSeen
folder_seen c = record { held = None; failed = None; reads = c.reads; writes = c.writes }

abbrev pub output_seen : ℕ → SinkSeen
output_seen n = record { written = None; faults = n }
