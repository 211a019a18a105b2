use Rattle.std.proofs.Common.{option_map, sym, subst}
use Rattle.qvt_tree_types.specs.Tree.{ResolveTerm}
use Rattle.qvt_tree_types.specs.View as view
use Rattle.qvt_tree_types.specs.declared.tree.ResolveCall.{out-ResolveCall}
use Rattle.qvt_types_rules.specs.Seen.{seen}
use Rattle.qvt_types_states.specs.Does.{GivesAndLeaves}
use Rattle.qvt_typing.specs.Phrases as phrase
use Rattle.qvt_types_walk_steps.proofs.Binds.{resolve-judged}
use Rattle.qvt_types_walk_steps.proofs.Views.{resolve_view_is}
use Rattle.qvt_types_walk_steps.proofs.resolves.resolve_call.Goals as goal

pub returns : goal.returns
returns g c =
    subst (λ (e : ResolveTerm). GivesAndLeaves (phrase.resolved (seen c.args.x.now) c.args.late e c.args.state.now) c.answers.result c.answers.new.state)
    (sym (resolve_view_is c.args.call.now))
    (resolve-judged (seen c.args.x.now) c.args.late (out-ResolveCall c.args.call.now).late (out-ResolveCall c.args.call.now).word (out-ResolveCall c.args.call.now).within (view.optional_filter (option_map view.filter_view (out-ResolveCall c.args.call.now).filter)) (out-ResolveCall c.args.call.now).place c.args.state.now c.fresh.new.state c.resolve_read.new.state c.in_ok-number.number c.in_ok-read.read c.answers.result c.answers.new.state
    c.in_ok-number.ensures c.in_ok-read.ensures c.answers.ensures)
