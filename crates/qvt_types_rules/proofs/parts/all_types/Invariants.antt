use Rattle.std.proofs.Common.{◌≡◌, drop}
use Rattle.qvt_types_context.specs.Rules.{types_from, all_types}
use Rattle.qvt_types_rules.proofs.parts.all_types.Given as goal

abbrev pub invariant-loop-ty : goal.invariant-loop-ty
invariant-loop-ty l = types_from l.all (drop l.ty-index l.types) ≡ all_types l.types
