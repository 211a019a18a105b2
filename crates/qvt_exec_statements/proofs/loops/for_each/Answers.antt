use Rattle.qvt_exec_resolves.specs.Nodes.{place_of}
use Rattle.qvt_exec_resolves.specs.Phrases.{each_type}
use Rattle.qvt_types_nodes.specs.View.{typed_expr_view, typed_optional_type}
use Rattle.qvt_exec_state.specs.Runs.{seen}
use Rattle.qvt_exec_phrases.specs.Means.{Scene, block_of, expr_of, guarded_of}
use Rattle.qvt_exec_statements.proofs.Each.{over_runs}
use Rattle.qvt_exec_statements.proofs.loops.for_each.Goals as goal

pub returns : goal.returns
returns g c =
    let x : Scene = (c.args.x.now, g.C.UnitCalls.means c.args.units.now) in
    over_runs (expr_of x c.args.source.now) (place_of (typed_expr_view c.args.source.now)) c.place_of.result c.args.name.now (each_type (typed_optional_type c.args.kind.now) (typed_expr_view c.args.source.now)) c.in_ok-of.of (guarded_of x c.args.condition.now (block_of x c.args.body.now))
    (seen c.args.state.now) (seen c.expr.new.state) c.in_ok-value.value c.in_ok-value-2.value c.in_ok-value.ensures c.in_ok-value-2.ensures c.place_of.ensures c.in_ok-of.ensures
    c.over_items.result c.over_items.new.state c.over_items.ensures
