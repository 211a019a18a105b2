use Rattle.std.proofs.Common.{◌≡◌, sym, subst, List, rules}
use Rattle.qvt_value.specs.declared.value.Value.{Value}
use Rattle.qvt_run_data.specs.declared.late.LateWrite.{LateWrite}
use Rattle.qvt_run_rules.specs.State.{Does}
use Rattle.qvt_types_nodes.specs.declared.tree.TypedExpr.{TypedExpr}
use Rattle.qvt_exec_types.specs.Post.{post_of, type_at}
use Rattle.qvt_exec_leaves.specs.Runs.{Runs, seen}
use Rattle.qvt_exec_invocations.specs.Means.{Scene}
use Rattle.qvt_exec_steps.proofs.ArrowArms.{arrow_does, arrow_is}
use Rattle.qvt_exec_steps.proofs.steps.step.Goals as goal

pub returns-in_ok-source-in-Arrow-clause-runs : goal.returns-in_ok-source-in-Arrow-clause-runs
returns-in_ok-source-in-Arrow-clause-runs g c =
    let x : Scene = (c.args.x.now, g.C.UnitCalls.means c.args.units.now) in
    let d : c.as_slice-in-Arrow.result.now ≡ c.in-Arrow.args = search rules in
    subst (λ (p : Does LateWrite Value). Runs (p (seen c.args.state.now)) c.arrow.result c.arrow.new.state)
    (sym (arrow_is x (type_at (post_of c.args.before.now) c.args.index) c.args.node.now c.args.value c.in-Arrow.name c.in-Arrow.head c.in-Arrow.args c.in-Arrow.place c.in-Arrow.note c.in_ok-source-in-Arrow.source c.in-Arrow.is c.in_ok-source-in-Arrow.ensures.source))
    (subst (λ (es : List TypedExpr). Runs (arrow_does x c.in-Arrow.name c.in-Arrow.head es c.in-Arrow.place c.in_ok-source-in-Arrow.source (seen c.args.state.now)) c.arrow.result c.arrow.new.state) d c.arrow.ensures)
