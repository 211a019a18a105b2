use Rattle.std.proofs.Common.{arith}
use Rattle.qvt_meta_checks.specs.Ends.{is_end_of}
use Rattle.qvt_meta_checks.proofs.Paired.{goes_on, ended}
use Rattle.qvt_meta_checks.proofs.ends.EndSet.of.Goals as goal

pub loop-feature-preserved : goal.loop-feature-preserved
loop-feature-preserved c = λ e. goes_on (is_end_of c.args.only e) c.args.features.now c.loop-feature.feature-index c.feature-item.result _ _ _ c.loop-feature-test.true c.feature-item.is
    (c.in_ok-add_counted.ensures.holds e) (c.loop-feature.invariant e)

pub returns : goal.returns
returns c = record { holds = λ e. ended (is_end_of c.args.only e) c.args.features.now c.loop-feature.feature-index _ (omega (arith, c.loop-feature-test.false)) (c.loop-feature.invariant e) }
