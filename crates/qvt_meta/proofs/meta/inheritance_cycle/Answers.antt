use Rattle.std.proofs.Common.{◌∙◌, ◌<◌, Some, option_map, ap, sym, subst, length, arith}
use Rattle.std.specs.Prelude.{IfSome}
use Rattle.qvt_metas.specs.Added.{declared_at}
use Rattle.qvt_meta_tables.specs.Cycles.{first_cycle}
use Rattle.qvt_meta_tables.proofs.Cyclic.{acyclic_of}
use Rattle.qvt_meta.proofs.Cyclic.{total, cycle_is}
use Rattle.qvt_meta.proofs.meta.inheritance_cycle.Goals as goal

pub class_name-name-requires : goal.class_name-name-requires
class_name-name-requires c =
    let low : c.in-Some.class < c.args.count = subst (λ o. IfSome o (λ x. x < c.args.count)) c.in-Some.is c.in_ok-class.ensures.bound in
    omega (arith, low, c.requires.count, ap length c.requires.classes, total c.args.meta.now, ap length c.as_slice.ensures)

pub returns-in_ok-copy-in-Some-clause-cycle : goal.returns-in_ok-copy-in-Some-clause-cycle
returns-in_ok-copy-in-Some-clause-cycle c =
    ap (λ x. Some x) (c.in_ok-copy-in-Some.ensures ∙ c.class_name-name.ensures ∙ ap (λ ks. (declared_at ks c.in-Some.class).name) c.as_slice.ensures)
    ∙ sym (cycle_is c.args.meta.now ∙ ap (option_map (λ i. (declared_at c.args.meta.now.classes i).name)) (ap first_cycle (sym c.requires.classes) ∙ sym c.in_ok-class.ensures.cycle ∙ c.in-Some.is))

pub returns-in-None-clause-cycle : goal.returns-in-None-clause-cycle
returns-in-None-clause-cycle c =
    sym (cycle_is c.args.meta.now ∙ ap (option_map (λ i. (declared_at c.args.meta.now.classes i).name)) (ap first_cycle (sym c.requires.classes) ∙ sym c.in_ok-class.ensures.cycle ∙ c.in-None.is))

pub returns-in-None-clause-acyclic : goal.returns-in-None-clause-acyclic
returns-in-None-clause-acyclic c = λ none. acyclic_of c.args.classes.now (sym c.in_ok-class.ensures.cycle ∙ c.in-None.is)
