use Rattle.std.proofs.Common.{◌≡◌, ◌++◌, drop, map}
use Rattle.qvt_metas.specs.Held.{capped_on}
use Rattle.qvt_metas.proofs.joining.lines_on.Given as goal

abbrev pub invariant-loop-line : goal.invariant-loop-line
invariant-loop-line l = l.all ++ map (map (capped_on l.begin)) (drop l.line-index l.lines) ≡ map (map (capped_on l.begin)) l.lines
