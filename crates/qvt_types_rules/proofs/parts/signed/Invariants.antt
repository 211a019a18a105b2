use Rattle.std.proofs.Common.{◌≡◌, ◌≤◌, drop, length}
use Rattle.qvt_types_context.specs.Rules.{signed}
use Rattle.qvt_types_context.specs.Seen.{seen}
use Rattle.qvt_types_rules.proofs.parts.signed.Given as goal

abbrev pub invariant-loop-i : goal.invariant-loop-i
invariant-loop-i l = record {
  kept : signed (seen l.x) (drop l.i l.signs) l.fn.operand l.fn.state ≡ (l.ty, l.state);
  within : l.i ≤ length l.signs;
}

abbrev pub decreases-loop-i : goal.decreases-loop-i
decreases-loop-i l = l.i
