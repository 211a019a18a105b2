-- What a late assignment keeps (QVT 1.3, 8.1.10): an entry more.
use Rattle.std.specs.Prelude.{[], ◌∷◌, ◌++◌, Option, None}
use Rattle.qvt_types_nodes.specs.Tree.{TypedStepTerm, TypedResolveTerm, TypedDotResolveStep, TypedArrowResolveStep}
use Rattle.qvt_run_data.specs.declared.late.LateWrite.{LateWrite}
use Rattle.qvt_run_rules.specs.State.{Does, turn_to}
use Rattle.qvt_meaning.specs.Nodes.{late_in}

abbrev pub kept : LateWrite → Does LateWrite (Unit {0})
kept w = turn_to (λ s. record s { entries = s.entries ++ w ∷ [] })

-- the late resolve that a step is
abbrev pub late_step : TypedStepTerm → Option TypedResolveTerm
late_step (TypedDotResolveStep r) = late_in r
late_step (TypedArrowResolveStep r) = late_in r
late_step s = None
