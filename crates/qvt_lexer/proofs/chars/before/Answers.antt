-- The text may be cut where its end begins.
use Rattle.std.proofs.Common.{◌≡◌, ◌-◌, length, ap, subst, arith, length-append}
use Rattle.std.specs.Str.{IsCharBoundary}
use Rattle.std.proofs.lemmas.Str.{IsCharBoundary-at_seam}
use Rattle.qvt_lexer.proofs.chars.before.Goals as goal

pub range-requires-clause-end_boundary : goal.range-requires-clause-end_boundary
range-requires-clause-end_boundary c =
    let text = c.args.text.now in
    let rest = c.args.rest.now in
    let len : length c.requires.0 ≡ length text - length rest = omega (arith, ap length c.requires.1, length-append c.requires.0 rest) in
    subst (IsCharBoundary text) len (IsCharBoundary-at_seam text c.requires.0 rest c.requires.1 c.utf8.rest)
