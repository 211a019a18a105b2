use Rattle.std.proofs.Common.{◌≡◌, rules}
use Rattle.qvt_exec_leaves.specs.Runs.{seen}
use Rattle.qvt_exec_invocations.specs.Means.{Scene}
use Rattle.qvt_exec_steps.proofs.BeforeResolve.{post_runs}
use Rattle.qvt_exec_steps.proofs.late.late_source.Goals as goal

pub returns-in-Post : goal.returns-in-Post
returns-in-Post g c =
    let x : Scene = (c.args.x.now, g.C.UnitCalls.means c.args.units.now) in
    let first : c.deref.result.now ≡ c.in-Post.first.value = search rules in
    let steps : c.as_slice.result.now ≡ c.in-Post.steps = search rules in
    post_runs x c.args.node.now c.deref.result.now c.as_slice.result.now c.in-Post.first c.in-Post.steps c.in-Post.place c.in-Post.note (seen c.args.state.now) c.without_last.result c.without_last.new.state c.in-Post.is first steps c.without_last.ensures
