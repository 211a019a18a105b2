use Rattle.std.proofs.Common.{◌∷◌, [], ◌+◌, drop, get_or}
use Rattle.std.proofs.lemmas.List.{drop_more}
use Rattle.qvt_meta_tables.proofs.Once.{behind_part}
use Rattle.qvt_meta_tables.proofs.inherited.add_new.Goals as goal

pub loop-feature-preserved : goal.loop-feature-preserved
loop-feature-preserved c = record {
  list = λ gs just.
      behind_part gs _ c.loop-feature.list c.add_one.new.list (drop c.loop-feature.feature-index c.args.features.now)
      (get_or c.args.features.now c.loop-feature.feature-index (record { 0 = 0 }) ∷ []) (drop (c.loop-feature.feature-index + 1) c.args.features.now)
      (c.loop-feature.invariant.list gs just) (drop_more c.args.features.now c.loop-feature.feature-index (record { 0 = 0 }) c.loop-feature-test.true) (c.in_ok-add_one.ensures.list gs just);
  later = c.in_ok-add_one.ensures.later;
}
