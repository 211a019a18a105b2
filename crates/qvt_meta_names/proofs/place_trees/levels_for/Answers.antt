use Rattle.std.proofs.Common.{slice_index_or}
use Rattle.qvt_meta_names.proofs.Trees.{fewer_digits}
use Rattle.qvt_meta_names.proofs.place_trees.levels_for.Goals as goal

pub returns : goal.returns
returns c = λ i. fewer_digits c.digits_of.result (slice_index_or c.args.numbers.now i 0) c.highest.result (c.highest.ensures i) c.digits_of.ensures.above
