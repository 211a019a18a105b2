use Rattle.std.proofs.Common.{ℕ, List, Option}
use Rattle.std.specs.Option.{option_copied}
use Rattle.qvt_value.specs.declared.value.Value.{Value}
use Rattle.qvt_run_data.specs.declared.late.LateWrite.{LateWrite}
use Rattle.qvt_run_rules.specs.Iterators as each
use Rattle.qvt_run_rules.specs.State.{Does}
use Rattle.qvt_types_nodes.specs.declared.tree.TypedExpr.{TypedExpr}
use Rattle.qvt_exec_leaves.specs.Runs.{seen}
use Rattle.qvt_exec_loops.proofs.TurnLoop.{body_ends, turn_ends, turn_gives, turn_goes_on, all_taken}
use Rattle.qvt_exec_invocations.specs.Means.{Scene, expr_of}
use Rattle.qvt_exec_steps.proofs.iterators.each_of.Goals as goal

-- the body of the iterator for its items
abbrev body_for : Option (List ℕ) → Scene → TypedExpr → Value → Does LateWrite Value
body_for name x body = each.for_item name (expr_of x body)

pub returns-in_err-given : goal.returns-in_err-given
returns-in_err-given g c =
    let f : Value → Does LateWrite Value = body_for (option_copied c.args.it.name) (c.args.x.now, g.C.UnitCalls.means c.args.units.now) c.args.body.now in
    body_ends c.args.it.place f _ c.loop-item.turns c.args.items.now c.loop-item.item-index c.item-item.result (seen c.loop-item.state) c.in_err-given.field-0.0 _ c.for_item.new.state
    (record { same = c.loop-item.invariant; within = c.loop-item-test.true; item = c.item-item.is }) c.in_err-given.ensures c.from_residual.ensures.1

pub returns-in_err-value : goal.returns-in_err-value
returns-in_err-value g c =
    let f : Value → Does LateWrite Value = body_for (option_copied c.args.it.name) (c.args.x.now, g.C.UnitCalls.means c.args.units.now) c.args.body.now in
    turn_ends c.args.it.place f _ c.loop-item.turns c.args.items.now c.loop-item.item-index c.item-item.result c.in_ok-given.given (seen c.loop-item.state) _ c.in_err-value.field-0.0 _ c.for_item.new.state
    (record { same = c.loop-item.invariant; within = c.loop-item-test.true; item = c.item-item.is }) c.in_ok-given.ensures (c.in_err-value.ensures f _) c.from_residual-in_err-value.ensures.1

pub returns-in-Some : goal.returns-in-Some
returns-in-Some g c =
    let f : Value → Does LateWrite Value = body_for (option_copied c.args.it.name) (c.args.x.now, g.C.UnitCalls.means c.args.units.now) c.args.body.now in
    turn_gives c.args.it.place f _ c.loop-item.turns c.args.items.now c.loop-item.item-index c.item-item.result c.in_ok-given.given (seen c.loop-item.state) _ c.in_ok-value.field-0 c.in-Some.value c.for_item.new.state
    (record { same = c.loop-item.invariant; within = c.loop-item-test.true; item = c.item-item.is }) c.in_ok-given.ensures (c.in_ok-value.ensures f _) c.in-Some.is

pub loop-item-preserved : goal.loop-item-preserved
loop-item-preserved g c =
    let f : Value → Does LateWrite Value = body_for (option_copied c.args.it.name) (c.args.x.now, g.C.UnitCalls.means c.args.units.now) c.args.body.now in
    turn_goes_on c.args.it.place f _ c.loop-item.turns c.args.items.now c.loop-item.item-index c.item-item.result c.in_ok-given.given (seen c.loop-item.state) _ c.in_ok-value.field-0 c.for_item.new.state
    (record { same = c.loop-item.invariant; within = c.loop-item-test.true; item = c.item-item.is }) c.in_ok-given.ensures (c.in_ok-value.ensures f _) c.in_default.is

pub returns : goal.returns
returns g c =
    let f : Value → Does LateWrite Value = body_for (option_copied c.args.it.name) (c.args.x.now, g.C.UnitCalls.means c.args.units.now) c.args.body.now in
    all_taken c.args.it.place f _ c.loop-item.turns c.args.items.now c.loop-item.item-index _ c.loop-item.state c.loop-item.invariant c.loop-item-test.false (c.finish.ensures f)
