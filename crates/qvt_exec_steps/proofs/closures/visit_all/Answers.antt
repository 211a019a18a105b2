use Rattle.std.proofs.Common.{◌≡◌, ◌∙◌, ◌≤◌, ℕ, zero, suc, refl, ap, List, Option, arith}
use Rattle.std.specs.Option.{option_copied}
use Rattle.qvt_value.specs.declared.value.Value.{Value}
use Rattle.qvt_run_data.specs.declared.late.LateWrite.{LateWrite}
use Rattle.qvt_run_rules.specs.Iterators as each
use Rattle.qvt_run_rules.specs.State.{Does}
use Rattle.qvt_types_nodes.specs.declared.tree.TypedExpr.{TypedExpr}
use Rattle.qvt_exec_leaves.specs.Runs.{seen}
use Rattle.qvt_exec_visits.specs.Visited.{rest_of}
use Rattle.qvt_exec_visits.proofs.VisitLoop.{all_visited, body_ends, last_visit, visit_ends, visit_goes_on}
use Rattle.qvt_exec_invocations.specs.Means.{Scene, expr_of}
use Rattle.qvt_exec_steps.proofs.closures.visit_all.Goals as goal

-- the body of the closure for its items
abbrev body_for : Option (List ℕ) → Scene → TypedExpr → Value → Does LateWrite Value
body_for name x body = each.for_item name (expr_of x body)

no_more : (n : ℕ) → (1 ≤ n → ⊥) → n ≡ 0
no_more zero h = refl
no_more (suc n) h = absurd (h (omega arith))

pub returns-in_default : goal.returns-in_default
returns-in_default g c =
    let f : Value → Does LateWrite Value = body_for (option_copied c.args.it.name) (c.args.x.now, g.C.UnitCalls.means c.args.units.now) c.args.body.now in
    all_visited c.args.it.place f _ (suc c.loop-item.more) c.loop-item.more c.loop-item.visits c.next.new.self c.next.result c.finish.result c.loop-item.state
    c.loop-item.invariant refl c.next.ensures c.in_default.is c.finish.ensures

pub returns-in_err-given : goal.returns-in_err-given
returns-in_err-given g c =
    let f : Value → Does LateWrite Value = body_for (option_copied c.args.it.name) (c.args.x.now, g.C.UnitCalls.means c.args.units.now) c.args.body.now in
    body_ends c.args.it.place f _ (suc c.loop-item.more) c.loop-item.more c.loop-item.visits c.next.new.self c.next.result c.in-Some.item (seen c.loop-item.state) c.in_err-given.field-0.0 c.from_residual.result c.for_item.new.state
    (record { same = c.loop-item.invariant; more = refl; next = c.next.ensures; item = c.in-Some.is }) c.in_err-given.ensures c.from_residual.ensures.1

pub returns-in-Some-2 : goal.returns-in-Some-2
returns-in-Some-2 g c =
    let f : Value → Does LateWrite Value = body_for (option_copied c.args.it.name) (c.args.x.now, g.C.UnitCalls.means c.args.units.now) c.args.body.now in
    visit_ends c.args.it.place f _ (suc c.loop-item.more) c.loop-item.more c.loop-item.visits c.next.new.self c.take.new.self c.next.result c.in_ok-value.field-0 c.in-Some.item c.in_ok-given.given c.in-Some-2.value (seen c.loop-item.state) c.for_item.new.state
    (record { same = c.loop-item.invariant; more = refl; next = c.next.ensures; item = c.in-Some.is }) c.in_ok-given.ensures c.in_ok-value.ensures c.in-Some-2.is

pub returns-in_default-checked_sub : goal.returns-in_default-checked_sub
returns-in_default-checked_sub g c =
    let f : Value → Does LateWrite Value = body_for (option_copied c.args.it.name) (c.args.x.now, g.C.UnitCalls.means c.args.units.now) c.args.body.now in
    let none : c.loop-item.more ≡ 0 = no_more c.loop-item.more c.in_default-checked_sub.ensures in
    last_visit c.args.it.place f _ (suc c.loop-item.more) c.loop-item.visits c.next.new.self c.take.new.self c.next.result c.in_ok-value.field-0 c.in-Some.item c.in_ok-given.given (seen c.loop-item.state) c.for_item.new.state
    (record { same = c.loop-item.invariant; more = ap suc none; next = c.next.ensures; item = c.in-Some.is }) c.in_ok-given.ensures c.in_ok-value.ensures c.in_default-2.is

pub loop-item-preserved : goal.loop-item-preserved
loop-item-preserved g c =
    let f : Value → Does LateWrite Value = body_for (option_copied c.args.it.name) (c.args.x.now, g.C.UnitCalls.means c.args.units.now) c.args.body.now in
    let one_less : suc c.in-Some-checked_sub.less ≡ c.loop-item.more = omega (arith, c.in-Some-checked_sub.ensures.0, c.in-Some-checked_sub.ensures.1) in
    ap (λ k. rest_of c.args.it.place f k c.take.new.self (seen c.for_item.new.state)) one_less
    ∙ visit_goes_on c.args.it.place f _ (suc c.loop-item.more) c.loop-item.more c.loop-item.visits c.next.new.self c.take.new.self c.next.result c.in_ok-value.field-0 c.in-Some.item c.in_ok-given.given (seen c.loop-item.state) c.for_item.new.state
    (record { same = c.loop-item.invariant; more = refl; next = c.next.ensures; item = c.in-Some.is }) c.in_ok-given.ensures c.in_ok-value.ensures c.in_default-2.is
