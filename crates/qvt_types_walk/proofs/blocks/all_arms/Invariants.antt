use Rattle.std.proofs.Common.{◌≡◌, ◌∷◌, [], map, drop}
use Rattle.qvt_tree_types.specs.View.{arm_view, arms_of}
use Rattle.qvt_typing.specs.Phrases as phrase
use Rattle.qvt_typing.specs.Rules.{all}
use Rattle.qvt_types_rules.specs.Seen.{seen}
use Rattle.qvt_types_walk.proofs.blocks.all_arms.Given as goal

abbrev pub invariant-loop-next : goal.invariant-loop-next
invariant-loop-next g l = all l.types (phrase.all_arms (seen l.x) (arms_of (map arm_view (drop l.next-index l.list)))) l.state ≡ all (l.fn.first ∷ []) (phrase.all_arms (seen l.x) (arms_of (map arm_view l.list))) l.initial.state
