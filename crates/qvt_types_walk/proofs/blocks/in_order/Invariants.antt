use Rattle.std.proofs.Common.{◌≡◌, map, drop}
use Rattle.qvt_tree_types.specs.View.{stmt_view, stmts_of}
use Rattle.qvt_typing.specs.Phrases as phrase
use Rattle.qvt_typing.specs.Statements.{each}
use Rattle.qvt_types_rules.specs.Seen.{seen}
use Rattle.qvt_types_walk.proofs.blocks.in_order.Given as goal

abbrev pub invariant-loop-next : goal.invariant-loop-next
invariant-loop-next g l = each (phrase.stmts (seen l.x) (stmts_of (map stmt_view (drop l.next-index l.body)))) l.state ≡ each (phrase.stmts (seen l.x) (stmts_of (map stmt_view l.body))) l.initial.state
