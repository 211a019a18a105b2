use Rattle.std.proofs.Common.{◌≡◌, map, drop}
use Rattle.qvt_tree_types.specs.View.{expr_view, exprs_of}
use Rattle.qvt_typing.specs.Phrases as phrase
use Rattle.qvt_typing.specs.Rules.{all, in_order}
use Rattle.qvt_types_rules.specs.Seen.{seen}
use Rattle.qvt_types_walk_steps.proofs.lists.exprs.Given as goal

abbrev pub invariant-loop-node : goal.invariant-loop-node
invariant-loop-node g l = all l.types (phrase.exprs (seen l.x) (exprs_of (map expr_view (drop l.node-index l.nodes)))) l.state ≡ in_order (phrase.exprs (seen l.x) (exprs_of (map expr_view l.nodes))) l.initial.state
