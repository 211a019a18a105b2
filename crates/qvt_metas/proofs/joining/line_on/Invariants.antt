use Rattle.std.proofs.Common.{◌≡◌, ◌++◌, drop, map}
use Rattle.qvt_metas.specs.Held.{capped_on}
use Rattle.qvt_metas.proofs.joining.line_on.Given as goal

abbrev pub invariant-loop-feature : goal.invariant-loop-feature
invariant-loop-feature l = l.numbers ++ map (capped_on l.begin) (drop l.feature-index l.line) ≡ map (capped_on l.begin) l.line
