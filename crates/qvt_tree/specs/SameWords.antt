-- Equality of the words of a tree.
use Rattle.std.specs.Prelude.{Bool}
use Rattle.qvt_tree_types.specs.declared.words.CollKind.{CollKind}
use Rattle.qvt_tree_types.specs.contracts.words.CollKindPartialEq.TheImpl as kind
use Rattle.qvt_tree_types.specs.declared.words.Level.{Level}
use Rattle.qvt_tree_types.specs.contracts.words.LevelPartialEq.TheImpl as level
use Rattle.qvt_tree_types.specs.declared.words.BinaryOp.{BinaryOp}
use Rattle.qvt_tree_types.specs.contracts.words.BinaryOpPartialEq.TheImpl as op
use Rattle.qvt_tree_types.specs.declared.words.PrefixOp.{PrefixOp}
use Rattle.qvt_tree_types.specs.contracts.words.PrefixOpPartialEq.TheImpl as prefix
use Rattle.qvt_tree_types.specs.declared.words.ResolveWord.{ResolveWord}
use Rattle.qvt_tree_types.specs.contracts.words.ResolveWordPartialEq.TheImpl as word
use Rattle.qvt_tree_types.specs.declared.words.Direction.{Direction}
use Rattle.qvt_tree_types.specs.contracts.words.DirectionPartialEq.TheImpl as direction

abbrev pub same_kind : CollKind → CollKind → Bool
same_kind a b = kind.ghosts.eq a b

abbrev pub same_level : Level → Level → Bool
same_level a b = level.ghosts.eq a b

abbrev pub same_op : BinaryOp → BinaryOp → Bool
same_op a b = op.ghosts.eq a b

abbrev pub same_prefix : PrefixOp → PrefixOp → Bool
same_prefix a b = prefix.ghosts.eq a b

abbrev pub same_word : ResolveWord → ResolveWord → Bool
same_word a b = word.ghosts.eq a b

abbrev pub same_direction : Direction → Direction → Bool
same_direction a b = direction.ghosts.eq a b
