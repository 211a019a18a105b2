use Rattle.std.proofs.Common.{option_map, sym, subst}
use Rattle.qvt_tree_types.specs.Tree.{ResolveTerm}
use Rattle.qvt_tree_types.specs.View as view
use Rattle.qvt_tree_types.specs.declared.tree.ResolveCall.{out-ResolveCall}
use Rattle.qvt_types_rules.specs.Seen.{seen}
use Rattle.qvt_types_states.specs.Does.{GivesAndLeaves}
use Rattle.qvt_typing.specs.Phrases as phrase
use Rattle.qvt_types_walk_steps.proofs.Binds.{resolved-behind}
use Rattle.qvt_types_walk_steps.proofs.Views.{resolve_view_is}
use Rattle.qvt_types_walk_steps.proofs.resolves.resolve_step.Goals as goal

pub returns : goal.returns
returns g c =
    subst (λ (e : ResolveTerm). GivesAndLeaves (phrase.resolved_behind (seen c.args.x.now) c.args.late c.args.joint e c.args.source.now c.args.state.now) c.marks.result c.marks.new.state)
    (sym (resolve_view_is c.args.call.now))
    (resolved-behind (seen c.args.x.now) c.args.late (out-ResolveCall c.args.call.now).late c.args.joint (out-ResolveCall c.args.call.now).word (out-ResolveCall c.args.call.now).within (view.optional_filter (option_map view.filter_view (out-ResolveCall c.args.call.now).filter)) (out-ResolveCall c.args.call.now).place c.args.source.now c.args.state.now c.resolve_read.new.state c.in_ok-read.read c.marks.result c.marks.new.state
    c.in_ok-read.ensures c.marks.ensures)
