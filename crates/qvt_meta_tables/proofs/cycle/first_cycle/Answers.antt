use Rattle.std.proofs.Common.{◌≡◌, ◌∙◌, ap, sym}
use Rattle.qvt_cycle.specs.Successors.{is_on_cycle}
use Rattle.qvt_meta_tables.specs.Cycles.{is_own_ancestor}
use Rattle.qvt_meta_tables.proofs.Cyclic.{on_cycle_is, cycle_next, cycle_found}
use Rattle.qvt_meta_tables.proofs.cycle.first_cycle.Goals as goal

pub returns-then-branch-clause-cycle : goal.returns-then-branch-clause-cycle
returns-then-branch-clause-cycle c =
    let same : c.in_ok-is_on_cycle.field-0 ≡ is_own_ancestor c.args.classes.now c.loop-class.class =
    c.in_ok-is_on_cycle.ensures ∙ ap (λ ls. is_on_cycle ls c.loop-class.class) (c.as_slice-in-loop-class.ensures.value ∙ c.in_ok-lists.ensures) ∙ on_cycle_is c.args.classes.now c.loop-class.class in
    cycle_found c.args.classes.now c.loop-class.class c.args.count _ c.loop-class-test.true (sym same ∙ c.if-branch.true) c.loop-class.invariant

pub loop-class-preserved : goal.loop-class-preserved
loop-class-preserved c =
    let same : c.in_ok-is_on_cycle.field-0 ≡ is_own_ancestor c.args.classes.now c.loop-class.class =
    c.in_ok-is_on_cycle.ensures ∙ ap (λ ls. is_on_cycle ls c.loop-class.class) (c.as_slice-in-loop-class.ensures.value ∙ c.in_ok-lists.ensures) ∙ on_cycle_is c.args.classes.now c.loop-class.class in
    cycle_next c.args.classes.now c.loop-class.class c.args.count _ c.loop-class-test.true (sym same ∙ c.if-branch.false) c.loop-class.invariant
