use Rattle.std.proofs.Common.{◌==◌, arith}
use Rattle.qvt_base.specs.declared.numbers.ClassNo.{ClassNo}
use Rattle.qvt_types_overrides.proofs.Uppers.{goes_on, ended}
use Rattle.qvt_types_overrides.proofs.upper.put_all.Goals as goal

pub loop-class-preserved : goal.loop-class-preserved
loop-class-preserved c = λ n. goes_on (λ (s : ClassNo). s.0 == n) c.args.supers.now c.loop-class.class-index (record { 0 = 0 }) _ _ _ c.loop-class-test.true (c.in_ok-put.ensures.ok n)
    (c.loop-class.invariant n)

pub returns : goal.returns
returns c = λ n. ended (λ (s : ClassNo). s.0 == n) c.args.supers.now c.loop-class.class-index _ _ (omega (arith, c.loop-class-test.false)) (c.loop-class.invariant n)
