use Rattle.std.proofs.Common.{◌≡◌, map, drop}
use Rattle.qvt_tree_types.specs.View.{link_view, links_of}
use Rattle.qvt_typing.specs.Phrases as phrase
use Rattle.qvt_typing.specs.Rules.{beside}
use Rattle.qvt_types_rules.specs.Seen.{seen}
use Rattle.qvt_types_walk_exprs.proofs.operands.links.Given as goal

abbrev pub invariant-loop-next : goal.invariant-loop-next
invariant-loop-next g l = beside l.ty (phrase.links (seen l.x) (links_of (map link_view (drop l.next-index l.rest)))) l.state ≡ beside l.fn.first (phrase.links (seen l.x) (links_of (map link_view l.rest))) l.initial.state
