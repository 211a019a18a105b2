use Rattle.std.proofs.Common.{◌∙◌, get_or, arith}
use Rattle.qvt_types_units.specs.Choice.{context_at}
use Rattle.qvt_types_units.specs.Overrides.{is_strictly_below}
use Rattle.qvt_types_choices.specs.Only.{is_only}
use Rattle.qvt_types_choices.proofs.CountedSets.{words_next}
use Rattle.qvt_types_choices.proofs.HowMany.{how_many_few}
use Rattle.qvt_types_choices.proofs.Sets.{set_end}
use Rattle.qvt_types_choices.proofs.stuck.words_of_singles.Goals as goal

pub put_counted-requires-clause-count : goal.put_counted-requires-clause-count
put_counted-requires-clause-count c =
    let few = how_many_few (λ k. is_strictly_below c.args.metas.now (context_at c.args.units.now (get_or c.args.group.now c.loop-number.number-index 0)) (context_at c.args.units.now k)) c.args.group.now in
    omega (arith, c.level_of-level.ensures, few, c.requires.few)

pub loop-number-preserved : goal.loop-number-preserved
loop-number-preserved c = record {
  each = c.put_counted.ensures.each ∙ c.loop-number.invariant.each;
  marks = words_next c.args.metas.now c.args.units.now c.args.group.now c.args.counts.now c.requires.each c.requires.counts c.are_well_formed.ensures.regular.transitive c.requires.distinct
      c.loop-number.number-index c.loop-number.words c.put_counted.new.words c.set_of-set.result.now c.level_of-level.result c.loop-number-test.true c.set_of-set.ensures
      c.loop-number.invariant.each c.put_counted.ensures.each c.put_counted.ensures.marks c.level_of-level.ensures c.loop-number.invariant.marks;
}

pub returns-clause-marks : goal.returns-clause-marks
returns-clause-marks c =
    set_end c.args.metas.now (is_only c.args.metas.now c.args.units.now c.args.group.now) c.args.group.now c.loop-number.number-index _ (omega (arith, c.loop-number-test.false)) c.loop-number.invariant.marks
