use Rattle.std.proofs.Common.{take}
use Rattle.qvt_meta_names.specs.Rooted.{FindsOn}
use Rattle.qvt_meta_names.proofs.place_tables.put_places.Given as goal

abbrev pub invariant-loop-place : goal.invariant-loop-place
invariant-loop-place l = FindsOn l.numbers (take l.place l.line) l.fn.words l.words l.levels l.after
