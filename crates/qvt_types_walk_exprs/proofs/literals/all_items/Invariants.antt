use Rattle.std.proofs.Common.{◌≡◌, map, drop}
use Rattle.qvt_tree_types.specs.View.{item_view, items_of}
use Rattle.qvt_typing.specs.Phrases as phrase
use Rattle.qvt_typing.specs.Rules.{all, in_order}
use Rattle.qvt_types_rules.specs.Seen.{seen}
use Rattle.qvt_types_walk_exprs.proofs.literals.all_items.Given as goal

abbrev pub invariant-loop-next : goal.invariant-loop-next
invariant-loop-next g l = all l.types (phrase.all_items (seen l.x) (items_of (map item_view (drop l.next-index l.items)))) l.state ≡ in_order (phrase.all_items (seen l.x) (items_of (map item_view l.items))) l.initial.state
