use Rattle.std.proofs.Common.{◌≡◌, length}
use Rattle.std.specs.Prelude.{reverse}
use Rattle.qvt_parser_tokens.specs.Depth.{closed}
use Rattle.qvt_parser_tokens.proofs.depth.close.Given as goal

abbrev pub invariant-loop : goal.invariant-loop
invariant-loop l = closed (reverse l.items) ≡ closed (reverse l.fn.items)

abbrev pub decreases-loop : goal.decreases-loop
decreases-loop l = length l.items
