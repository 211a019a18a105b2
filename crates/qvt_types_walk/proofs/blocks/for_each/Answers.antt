use Rattle.std.proofs.Common.{◌≡◌, false, map, option_map, rules}
use Rattle.qvt_tree_types.specs.View as view
use Rattle.qvt_types_rules.specs.Seen.{seen}
use Rattle.qvt_types_states.specs.Scopes.{back_to}
use Rattle.qvt_typing.specs.Phrases as phrase
use Rattle.qvt_types_walk.proofs.Binds.{for_each-steps}
use Rattle.qvt_types_walk.proofs.blocks.for_each.Goals as goal

pub returns : goal.returns
returns g c =
    let z : c.cut.new.self ≡ back_to c.type_if.new.state.scope c.turn.new.state.scope = search rules in
    for_each-steps (seen c.args.x.now) (phrase.expr (seen c.args.x.now) false (view.expr_view c.args.source.now)) c.args.name.now (phrase.optional_type (seen c.args.x.now) (view.optional_type c.args.kind.now)) (phrase.given_expr (seen c.args.x.now) (view.optional_expr (option_map view.expr_view c.args.condition.now))) (phrase.stmts (seen c.args.x.now) (view.stmts_of (map view.stmt_view c.args.body.now))) c.args.place
    c.args.state.now c.expr.new.state c.type_if.new.state c.declare_iterator.new.state c.turn.new.state c.in_ok-source.source c.in_ok-kind.kind c.in_ok-condition.condition c.cut.new.self c.for_each_settled.result c.for_each_settled.new.state
    c.in_ok-source.ensures c.in_ok-kind.ensures c.in_ok-declare_iterator.ensures c.in_ok-condition.ensures z c.for_each_settled.ensures
