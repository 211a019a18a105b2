-- The reserved words and signs of a tree's words (OCL 2.4, 7; QVT 1.3, 8.4).
use Rattle.std.specs.Prelude.{Bool, true, false}
use Rattle.qvt_language.specs.declared.class.Class.{Class}
use Rattle.qvt_language.specs.declared.class.Class.TheVariants as class
use Rattle.qvt_tree_types.specs.declared.words.Direction.{Direction}
use Rattle.qvt_tree_types.specs.declared.words.Direction.TheVariants as direction
use Rattle.qvt_tree_types.specs.declared.words.CollKind.{CollKind}
use Rattle.qvt_tree_types.specs.declared.words.CollKind.TheVariants as kind
use Rattle.qvt_tree_types.specs.declared.words.BinaryOp.{BinaryOp}
use Rattle.qvt_tree_types.specs.declared.words.BinaryOp.TheVariants as op
use Rattle.qvt_tree_types.specs.declared.words.PrefixOp.{PrefixOp}
use Rattle.qvt_tree_types.specs.declared.words.PrefixOp.TheVariants as prefix
use Rattle.qvt_tree_types.specs.declared.words.ResolveWord.{ResolveWord}
use Rattle.qvt_tree_types.specs.declared.words.ResolveWord.TheVariants as resolve

abbrev pub direction_word : Direction → Class
direction_word direction.Input = class.InWord
direction_word direction.Output = class.OutWord
direction_word direction.Both = class.InoutWord

abbrev pub kind_word : CollKind → Class
kind_word kind.Set = class.SetWord
kind_word kind.Bag = class.BagWord
kind_word kind.Sequence = class.SequenceWord
kind_word kind.OrderedSet = class.OrderedSetWord

abbrev pub operator_sign : BinaryOp → Class
operator_sign op.Implies = class.ImpliesWord
operator_sign op.Xor = class.XorWord
operator_sign op.Or = class.OrWord
operator_sign op.And = class.AndWord
operator_sign op.Equal = class.EqualSign
operator_sign op.NotEqual = class.Diamond
operator_sign op.Less = class.LessSign
operator_sign op.LessEqual = class.AtMost
operator_sign op.Greater = class.GreaterSign
operator_sign op.GreaterEqual = class.AtLeast
operator_sign op.Plus = class.PlusSign
operator_sign op.Minus = class.MinusSign
operator_sign op.Times = class.Star

abbrev pub prefix_sign : PrefixOp → Class
prefix_sign prefix.Not = class.NotWord
prefix_sign prefix.Minus = class.MinusSign

abbrev pub resolve_word : ResolveWord → Class
resolve_word resolve.Resolve = class.ResolveAllWord
resolve_word resolve.ResolveOne = class.ResolveOneWord
resolve_word resolve.InvResolve = class.InvResolveWord
resolve_word resolve.InvResolveOne = class.InvResolveOneWord
resolve_word resolve.ResolveIn = class.ResolveInWord
resolve_word resolve.ResolveOneIn = class.ResolveOneInWord
resolve_word resolve.InvResolveIn = class.InvResolveInWord
resolve_word resolve.InvResolveOneIn = class.InvResolveOneInWord

abbrev pub truth_word : Bool → Class
truth_word true = class.TrueWord
truth_word false = class.FalseWord

-- an `xmap` is strict
abbrev pub map_word : Bool → Class
map_word true = class.XmapWord
map_word false = class.MapWord

abbrev pub assign_sign : Bool → Class
assign_sign true = class.PlusEqual
assign_sign false = class.Becomes

abbrev pub helper_word : Bool → Class
helper_word true = class.QueryWord
helper_word false = class.HelperWord
