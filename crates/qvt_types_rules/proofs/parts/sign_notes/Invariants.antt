use Rattle.std.proofs.Common.{◌≡◌, drop}
use Rattle.qvt_types_context.specs.Rules.{sign_notes}
use Rattle.qvt_types_rules.proofs.parts.sign_notes.Given as goal

abbrev pub invariant-loop-sign : goal.invariant-loop-sign
invariant-loop-sign l = sign_notes (drop l.sign-index l.signs) l.state ≡ sign_notes l.signs l.initial.state
