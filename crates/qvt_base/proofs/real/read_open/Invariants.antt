use Rattle.std.proofs.Common.{◌≤◌, length}
use Rattle.std.specs.Io.KnownBytes.{Consumes}
use Rattle.qvt_base.proofs.real.read_open.Given as goal

-- what was found so far was the front of what the file had
abbrev pub invariant-loop : goal.invariant-loop
invariant-loop g l = (length l.found ≤ l.limit) × Consumes (g.F.Read.remaining l.initial.file) (g.F.Read.remaining l.file) l.found
