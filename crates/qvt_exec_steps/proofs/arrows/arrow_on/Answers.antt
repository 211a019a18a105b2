use Rattle.std.proofs.Common.{◌≡◌, false, map, Some, rules}
use Rattle.std.specs.Option.{option_copied}
use Rattle.qvt_types_nodes.specs.View.{typed_expr_view, typed_exprs_of}
use Rattle.qvt_types_steps.specs.Classes.{is_selection}
use Rattle.qvt_types_steps.specs.IteratorTable.{iterator_named}
use Rattle.qvt_exec_types.specs.Nodes as nodes
use Rattle.qvt_exec_types.specs.Readings as by
use Rattle.qvt_exec_invocations.specs.Means.{Scene, exprs_of, setting_of}
use Rattle.qvt_exec_steps.specs.Loops.{named_alone}
use Rattle.qvt_exec_steps.proofs.Args.{arrow_misfits}
use Rattle.qvt_exec_steps.proofs.Misfits.{misfits}
use Rattle.qvt_exec_steps.proofs.arrows.arrow_on.Goals as goal

pub returns-in-len2-up : goal.returns-in-len2-up
returns-in-len2-up g c =
    let x : Scene = (c.args.x.now, g.C.UnitCalls.means c.args.units.now) in
    let other : is_selection c.args.name.now ≡ false = search rules in
    let is : iterator_named c.args.name.now ≡ Some c.in-Some.which = search rules in
    misfits (by.arrow_on (setting_of x) c.args.name.now (named_alone (option_copied c.args.it.name)) (exprs_of x c.args.args.now) (nodes.class_argument (typed_exprs_of (map typed_expr_view c.args.args.now))) c.args.it.place c.args.value) c.args.it.place c.misfit-in-len2-up.result c.args.state.now
    (arrow_misfits x c.args.name.now c.in-Some.which (named_alone (option_copied c.args.it.name)) c.args.args.now (nodes.class_argument (typed_exprs_of (map typed_expr_view c.args.args.now))) c.args.it.place c.args.value other is c.in-len2-up.len_at_least) c.misfit-in-len2-up.ensures
