use Rattle.std.proofs.Common.{◌∙◌, arith}
use Rattle.qvt_types_choices.proofs.CountedSets.{over_in, counts_next}
use Rattle.qvt_types_choices.proofs.HowMany.{how_many_all}
use Rattle.qvt_types_choices.proofs.stuck.counts_of.Goals as goal

pub loop-number-preserved : goal.loop-number-preserved
loop-number-preserved c = record {
  each = c.add_set.ensures.each ∙ c.loop-number.invariant.each;
  counts = counts_next c.args.metas.now c.args.units.now c.args.group.now c.loop-number.number-index c.loop-number.counts c.add_set.new.counts c.set_of.result.now
      c.loop-number-test.true c.requires.few c.set_of.ensures c.add_set.ensures.each c.add_set.ensures.counts c.loop-number.invariant.counts;
}

pub returns-clause-counts : goal.returns-clause-counts
returns-clause-counts c = λ d low.
    c.loop-number.invariant.counts d low
    ∙ how_many_all (over_in c.args.metas.now c.args.units.now d) c.args.group.now c.loop-number.number-index (omega (arith, c.loop-number-test.false))
