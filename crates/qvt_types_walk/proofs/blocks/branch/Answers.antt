use Rattle.std.proofs.Common.{◌≡◌, List, Option, false, map, option_map, rules, subst}
use Rattle.qvt_tree_types.specs.View as view
use Rattle.qvt_types_data.specs.declared.ty.Ty.{Ty}
use Rattle.qvt_types_rules.specs.Seen.{seen}
use Rattle.qvt_types_states.specs.Does.{GivesAndLeaves}
use Rattle.qvt_typing.specs.Phrases as phrase
use Rattle.qvt_types_walk.specs.Parts as part
use Rattle.qvt_types_walk.proofs.Binds.{if-steps}
use Rattle.qvt_types_walk.proofs.blocks.branch.Goals as goal

pub returns : goal.returns
returns g c =
    let d : c.as_slice.result.now ≡ c.in_ok-types.types = search rules in
    if-steps (seen c.args.x.now) (phrase.expr (seen c.args.x.now) false (view.expr_view c.args.condition.now)) (phrase.stmts (seen c.args.x.now) (view.stmts_of (map view.stmt_view c.args.body.now))) (phrase.all_arms (seen c.args.x.now) (view.arms_of (map view.arm_view c.args.arms.now))) (phrase.otherwise (seen c.args.x.now) (view.optional_else (option_map (map view.stmt_view) c.args.other.now))) c.args.place
    c.args.state.now c.expr.new.state c.block.new.state c.all_arms.new.state c.otherwise.new.state c.in_ok-ty.ty c.in_ok-types.types c.if_settled.result c.if_settled.new.state
    c.in_ok-ty.ensures c.in_ok-block.ensures c.in_ok-types.ensures c.in_ok-otherwise.ensures
    (subst (λ (os : List (Option Ty)). GivesAndLeaves (part.if_settled (seen c.args.x.now) os c.args.place c.otherwise.new.state) c.if_settled.result c.if_settled.new.state) d c.if_settled.ensures)
