use Rattle.std.proofs.Common.{◌≡◌, ◌+◌, take}
use Rattle.qvt_types_units.specs.Choice.{context_at}
use Rattle.qvt_types_units.specs.Overrides.{is_strictly_below}
use Rattle.qvt_types_choices.specs.HowMany.{how_many}
use Rattle.qvt_types_choices.proofs.stuck.level_of.Given as goal

abbrev pub invariant-loop-other : goal.invariant-loop-other
invariant-loop-other l = l.level ≡ how_many (λ k. is_strictly_below l.metas (context_at l.units l.number) (context_at l.units k)) (take l.other-index l.group) + 1
