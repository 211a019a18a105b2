use Rattle.std.proofs.Common.{◌∙◌, ◌==◌, ◌||◌, List, ap, arith}
use Rattle.std.specs.List.{list_any}
use Rattle.qvt_base.specs.declared.numbers.ClassNo.{ClassNo}
use Rattle.qvt_metamodel.specs.declared.info.ClassInfo.{ClassInfo}
use Rattle.qvt_metas.specs.NumberSets.{has_number}
use Rattle.qvt_types_overrides.proofs.Uppers.{goes_on, ended}
use Rattle.qvt_types_overrides.proofs.upper.supers_of.Goals as goal

pub loop-class-preserved : goal.loop-class-preserved
loop-class-preserved c = λ n. goes_on (λ (k : ClassInfo). list_any (λ s. s.0 == n) k.supers) c.args.classes.now c.loop-class.class-index c.class-item.result _ _ _ c.loop-class-test.true
    (c.in_ok-put_all.ensures n ∙ ap (λ (ss : List ClassNo). has_number c.loop-class.set n || list_any (λ s. s.0 == n) ss) c.as_slice.ensures
    ∙ ap (λ (k : ClassInfo). has_number c.loop-class.set n || list_any (λ s. s.0 == n) k.supers) c.class-item.is) (c.loop-class.invariant n)

pub returns : goal.returns
returns c = λ n. ended (λ (k : ClassInfo). list_any (λ s. s.0 == n) k.supers) c.args.classes.now c.loop-class.class-index _ _ (omega (arith, c.loop-class-test.false)) (c.loop-class.invariant n)
