use Rattle.std.proofs.Common.{◌∙◌, ◌-◌, ◌+◌, ◌/◌, ap}
use Rattle.qvt_meta_names.specs.Rooted.{tree_word}
use Rattle.qvt_meta_names.proofs.Trees.{next_word}
use Rattle.qvt_meta_names.proofs.place_trees.tree_word.Goals as goal

pub loop-level-preserved : goal.loop-level-preserved
loop-level-preserved c =
    ap (λ k. tree_word c.args.words.now (c.args.levels - (c.loop-level.level + 1)) k (c.loop-level.rest / 4)) c.word_at-node.ensures
    ∙ next_word c.args.words.now c.args.levels c.loop-level.level c.loop-level.node c.loop-level.rest c.loop-level-test.true
    ∙ c.loop-level.invariant
