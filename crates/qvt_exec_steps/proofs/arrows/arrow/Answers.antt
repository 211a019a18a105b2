use Rattle.std.proofs.Common.{◌≡◌, false, true, sym, subst, map, rules}
use Rattle.std.specs.Option.{option_copied}
use Rattle.qvt_value.specs.declared.value.Value.{Value}
use Rattle.qvt_run_data.specs.declared.late.LateWrite.{LateWrite}
use Rattle.qvt_run_rules.specs.State.{Does}
use Rattle.qvt_types_nodes.specs.View.{typed_expr_view, typed_exprs_of}
use Rattle.qvt_exec_types.specs.Nodes as nodes
use Rattle.qvt_exec_leaves.specs.Heads.{iterates}
use Rattle.qvt_exec_leaves.specs.Runs.{Runs, seen}
use Rattle.qvt_exec_invocations.specs.Means.{Scene, exprs_of}
use Rattle.qvt_exec_steps.proofs.ArrowArms.{arrow_does, with_bodies, with_body, without_body}
use Rattle.qvt_exec_steps.proofs.Loops.{arrow_alone}
use Rattle.qvt_exec_steps.proofs.Misfits.{misfits}
use Rattle.qvt_exec_steps.proofs.arrows.arrow.Goals as goal

pub returns-then-not-iterates : goal.returns-then-not-iterates
returns-then-not-iterates g c =
    let x : Scene = (c.args.x.now, g.C.UnitCalls.means c.args.units.now) in
    let other : iterates c.args.name.now ≡ false = search rules in
    subst (λ (p : Does LateWrite Value). Runs (p (seen c.args.state.now)) c.arrow_on.result c.arrow_on.new.state)
    (sym (arrow_alone x c.args.name.now c.args.head.now (option_copied c.name_in.result) (exprs_of x c.args.args.now) (nodes.class_argument (typed_exprs_of (map typed_expr_view c.args.args.now))) c.args.place c.args.value other c.name_in.ensures))
    c.arrow_on.ensures

pub returns-in-empty : goal.returns-in-empty
returns-in-empty g c =
    let x : Scene = (c.args.x.now, g.C.UnitCalls.means c.args.units.now) in
    let it : iterates c.args.name.now ≡ true = search rules in
    misfits (arrow_does x c.args.name.now c.args.head.now c.args.args.now c.args.place c.args.value) c.args.place c.misfit.result c.args.state.now
    (without_body x c.args.name.now c.args.head.now c.args.args.now c.args.place c.args.value it c.in-empty.len_below) c.misfit.ensures

pub returns-in-len1 : goal.returns-in-len1
returns-in-len1 g c =
    let x : Scene = (c.args.x.now, g.C.UnitCalls.means c.args.units.now) in
    let it : iterates c.args.name.now ≡ true = search rules in
    subst (λ (p : Does LateWrite Value). Runs (p (seen c.args.state.now)) c.iterate_by.result c.iterate_by.new.state)
    (sym (with_body x c.args.name.now c.args.head.now c.args.args.now c.args.place c.args.value c.body-item.result it c.in-len1.len_at_least c.in-len1.len_below c.body-item.is))
    c.iterate_by.ensures

pub returns-in-len2-up : goal.returns-in-len2-up
returns-in-len2-up g c =
    let x : Scene = (c.args.x.now, g.C.UnitCalls.means c.args.units.now) in
    let it : iterates c.args.name.now ≡ true = search rules in
    misfits (arrow_does x c.args.name.now c.args.head.now c.args.args.now c.args.place c.args.value) c.args.place c.misfit-in-len2-up.result c.args.state.now
    (with_bodies x c.args.name.now c.args.head.now c.args.args.now c.args.place c.args.value it c.in-len2-up.len_at_least) c.misfit-in-len2-up.ensures
