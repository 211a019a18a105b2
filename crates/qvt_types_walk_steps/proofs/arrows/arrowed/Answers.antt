use Rattle.std.proofs.Common.{◌≡◌, ◌∙◌, Option, map, option_map, rules, sym, subst, ap}
use Rattle.qvt_tree_types.specs.View as view
use Rattle.qvt_types_data.specs.declared.ty.Ty.{Ty}
use Rattle.qvt_types_rules.specs.Seen.{seen}
use Rattle.qvt_types_states.specs.Does.{GivesAndLeaves}
use Rattle.qvt_types_states.specs.Scopes.{back_to}
use Rattle.qvt_types_steps.specs.IteratorTable.{iterator_named}
use Rattle.qvt_typing.specs.Phrases as phrase
use Rattle.qvt_typing.specs.Rules as rule
use Rattle.qvt_typing.specs.declared.parts.Effect.{Effect}
use Rattle.qvt_types_walk_steps.proofs.Binds.{arrowed-steps}
use Rattle.qvt_types_walk_steps.proofs.arrows.arrowed.Goals as goal

pub returns : goal.returns
returns g c =
    let z : c.cut.new.self ≡ back_to c.args.state.now.scope c.arrow_ruled.new.state.scope = search rules in
    let i : c.iterator_effect-effect.result ≡ rule.iterator_effect (iterator_named c.args.name.now) =
    c.iterator_effect-effect.ensures ∙ ap rule.iterator_effect (c.iterator_named.ensures ∙ ap iterator_named c.as_str.ensures) in
    arrowed-steps (seen c.args.x.now) c.args.name.now (phrase.heading (seen c.args.x.now) c.args.name.now (view.optional_head (option_map view.head_view c.args.head.now))) (phrase.exprs (phrase.body_context (iterator_named c.args.name.now) (seen c.args.x.now)) (view.exprs_of (map view.expr_view c.args.args.now))) (phrase.classes (seen c.args.x.now) (view.exprs_of (map view.expr_view c.args.args.now))) c.args.place c.args.source.now c.args.state.now c.heading.new.state c.arrow_ruled.new.state c.in_ok-heading.heading c.in_ok-ruling.ruling c.cut.new.self c.stepped.result c.stepped.new.state
    (ap (λ (o : Option Ty). phrase.heading (seen c.args.x.now) c.args.name.now (view.optional_head (option_map view.head_view c.args.head.now)) o c.args.state.now) (sym c.in_ok-items.ensures) ∙ c.in_ok-heading.ensures)
    c.in_ok-ruling.ensures
    z (subst (λ (e : Effect). GivesAndLeaves (rule.stepped (seen c.args.x.now) c.in_ok-ruling.ruling e c.args.place (record c.arrow_ruled.new.state { scope = c.cut.new.self })) c.stepped.result c.stepped.new.state) i c.stepped.ensures)
