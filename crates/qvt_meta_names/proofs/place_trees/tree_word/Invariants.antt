use Rattle.std.proofs.Common.{◌≡◌, ◌-◌}
use Rattle.qvt_meta_names.specs.Rooted.{tree_word}
use Rattle.qvt_meta_names.proofs.place_trees.tree_word.Given as goal

abbrev pub invariant-loop-level : goal.invariant-loop-level
invariant-loop-level l = tree_word l.words (l.levels - l.level) l.node l.rest ≡ tree_word l.words l.levels l.root l.number
