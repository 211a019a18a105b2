use Rattle.std.proofs.Common.{◌≡◌, map, drop}
use Rattle.qvt_tree_types.specs.View.{step_view, steps_of}
use Rattle.qvt_typing.specs.Phrases as phrase
use Rattle.qvt_typing.specs.Rules.{beside}
use Rattle.qvt_types_rules.specs.Seen.{seen}
use Rattle.qvt_types_walk_steps.proofs.steps.all_steps.Given as goal

abbrev pub invariant-loop-at : goal.invariant-loop-at
invariant-loop-at g l = beside l.ty (phrase.steps (seen l.x) l.late l.is_first (steps_of (map step_view (drop l.at l.list)))) l.state ≡ beside l.fn.first (phrase.steps (seen l.x) l.late l.is_model (steps_of (map step_view l.list))) l.initial.state
