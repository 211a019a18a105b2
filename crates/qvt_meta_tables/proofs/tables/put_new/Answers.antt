use Rattle.std.proofs.Common.{◌∙◌, sym}
use Rattle.qvt_meta_tables.proofs.Once.{new_next}
use Rattle.qvt_meta_tables.proofs.tables.put_new.Goals as goal

pub loop-feature-preserved : goal.loop-feature-preserved
loop-feature-preserved c = λ gs inside.
    new_next c.loop-feature.placed c.put.new.self c.args.own.now c.loop-feature.feature-index _ gs c.loop-feature-test.true (sym c.has.ensures ∙ c.if-has.false) c.in_ok-put.ensures.ok
    (c.loop-feature.invariant gs inside)
