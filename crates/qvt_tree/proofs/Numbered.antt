-- The words of the tree are told apart by the numbers that their equality compares.
use Rattle.std.proofs.Common.{◌≡◌, ℕ, Bool, true, false, ◌&&◌, ◌==◌, refl, sym, ap, ◌∙◌, cond}
use Rattle.std.proofs.lemmas.Bool.{false≢true}
use Rattle.std.proofs.lemmas.Bool.Decides.{Decides-eqb}
use denote.Enum.Declared.{tag_of}
use Rattle.qvt_tree.specs.SameWords.{same_kind, same_level, same_op, same_prefix, same_word, same_direction}
use Rattle.qvt_tree_types.specs.declared.words.CollKind.{CollKind}
use Rattle.qvt_tree_types.specs.declared.words.CollKind.TheVariants as collkind
use Rattle.qvt_tree_types.specs.contracts.words.CollKind as collkind_code
use Rattle.qvt_tree_types.specs.declared.words.Level.{Level}
use Rattle.qvt_tree_types.specs.declared.words.Level.TheVariants as level
use Rattle.qvt_tree_types.specs.contracts.words.Level as level_code
use Rattle.qvt_tree_types.specs.declared.words.BinaryOp.{BinaryOp}
use Rattle.qvt_tree_types.specs.declared.words.BinaryOp.TheVariants as binaryop
use Rattle.qvt_tree_types.specs.contracts.words.BinaryOp as binaryop_code
use Rattle.qvt_tree_types.specs.declared.words.PrefixOp.{PrefixOp}
use Rattle.qvt_tree_types.specs.declared.words.PrefixOp.TheVariants as prefixop
use Rattle.qvt_tree_types.specs.contracts.words.PrefixOp as prefixop_code
use Rattle.qvt_tree_types.specs.declared.words.ResolveWord.{ResolveWord}
use Rattle.qvt_tree_types.specs.declared.words.ResolveWord.TheVariants as resolveword
use Rattle.qvt_tree_types.specs.contracts.words.ResolveWord as resolveword_code
use Rattle.qvt_tree_types.specs.declared.words.Direction.{Direction}
use Rattle.qvt_tree_types.specs.declared.words.Direction.TheVariants as direction
use Rattle.qvt_tree_types.specs.contracts.words.Direction as direction_code

pub and_left : (a b : Bool) → (a && b) ≡ true → a ≡ true
and_left true b h = refl
and_left false b h = absurd (false≢true h)

pub and_right : (a b : Bool) → (a && b) ≡ true → b ≡ true
and_right true b h = h
and_right false b h = absurd (false≢true h)

pub and_both : (a b : Bool) → a ≡ true → b ≡ true → (a && b) ≡ true
and_both true b h k = k
and_both false b h k = absurd (false≢true h)

abbrev kind_tag : CollKind → ℕ
kind_tag x = tag_of collkind_code.the_type x

kind_of : ℕ → CollKind
kind_of n = cond (n == 0) collkind.Set (cond (n == 1) collkind.Bag (cond (n == 2) collkind.Sequence (collkind.OrderedSet)))

kind_back : (x : CollKind) → kind_of (kind_tag x) ≡ x
unfolding kind_of
kind_back collkind.Set = refl
kind_back collkind.Bag = refl
kind_back collkind.Sequence = refl
kind_back collkind.OrderedSet = refl

pub kind_sound : (x y : CollKind) → same_kind x y ≡ true → x ≡ y
kind_sound x y h = sym (kind_back x) ∙ ap kind_of ((Decides-eqb (kind_tag x) (kind_tag y)).0 h) ∙ kind_back y

pub kind_self : (x : CollKind) → same_kind x x ≡ true
kind_self x = (Decides-eqb (kind_tag x) (kind_tag x)).1 refl

abbrev level_tag : Level → ℕ
level_tag x = tag_of level_code.the_type x

level_of : ℕ → Level
level_of n = cond (n == 0) level.Implies (cond (n == 1) level.Xor (cond (n == 2) level.Or (cond (n == 3) level.And (cond (n == 4) level.Equality (cond (n == 5) level.Relation (cond (n == 6) level.Sum (level.Product)))))))

level_back : (x : Level) → level_of (level_tag x) ≡ x
unfolding level_of
level_back level.Implies = refl
level_back level.Xor = refl
level_back level.Or = refl
level_back level.And = refl
level_back level.Equality = refl
level_back level.Relation = refl
level_back level.Sum = refl
level_back level.Product = refl

pub level_sound : (x y : Level) → same_level x y ≡ true → x ≡ y
level_sound x y h = sym (level_back x) ∙ ap level_of ((Decides-eqb (level_tag x) (level_tag y)).0 h) ∙ level_back y

pub level_self : (x : Level) → same_level x x ≡ true
level_self x = (Decides-eqb (level_tag x) (level_tag x)).1 refl

abbrev op_tag : BinaryOp → ℕ
op_tag x = tag_of binaryop_code.the_type x

op_of : ℕ → BinaryOp
op_of n = cond (n == 0) binaryop.Implies (cond (n == 1) binaryop.Xor (cond (n == 2) binaryop.Or (cond (n == 3) binaryop.And (cond (n == 4) binaryop.Equal (cond (n == 5) binaryop.NotEqual (cond (n == 6) binaryop.Less (cond (n == 7) binaryop.LessEqual (cond (n == 8) binaryop.Greater (cond (n == 9) binaryop.GreaterEqual (cond (n == 10) binaryop.Plus (cond (n == 11) binaryop.Minus (binaryop.Times))))))))))))

op_back : (x : BinaryOp) → op_of (op_tag x) ≡ x
unfolding op_of
op_back binaryop.Implies = refl
op_back binaryop.Xor = refl
op_back binaryop.Or = refl
op_back binaryop.And = refl
op_back binaryop.Equal = refl
op_back binaryop.NotEqual = refl
op_back binaryop.Less = refl
op_back binaryop.LessEqual = refl
op_back binaryop.Greater = refl
op_back binaryop.GreaterEqual = refl
op_back binaryop.Plus = refl
op_back binaryop.Minus = refl
op_back binaryop.Times = refl

pub op_sound : (x y : BinaryOp) → same_op x y ≡ true → x ≡ y
op_sound x y h = sym (op_back x) ∙ ap op_of ((Decides-eqb (op_tag x) (op_tag y)).0 h) ∙ op_back y

pub op_self : (x : BinaryOp) → same_op x x ≡ true
op_self x = (Decides-eqb (op_tag x) (op_tag x)).1 refl

abbrev prefix_tag : PrefixOp → ℕ
prefix_tag x = tag_of prefixop_code.the_type x

prefix_of : ℕ → PrefixOp
prefix_of n = cond (n == 0) prefixop.Not (prefixop.Minus)

prefix_back : (x : PrefixOp) → prefix_of (prefix_tag x) ≡ x
unfolding prefix_of
prefix_back prefixop.Not = refl
prefix_back prefixop.Minus = refl

pub prefix_sound : (x y : PrefixOp) → same_prefix x y ≡ true → x ≡ y
prefix_sound x y h = sym (prefix_back x) ∙ ap prefix_of ((Decides-eqb (prefix_tag x) (prefix_tag y)).0 h) ∙ prefix_back y

pub prefix_self : (x : PrefixOp) → same_prefix x x ≡ true
prefix_self x = (Decides-eqb (prefix_tag x) (prefix_tag x)).1 refl

abbrev word_tag : ResolveWord → ℕ
word_tag x = tag_of resolveword_code.the_type x

word_of : ℕ → ResolveWord
word_of n = cond (n == 0) resolveword.Resolve (cond (n == 1) resolveword.ResolveOne (cond (n == 2) resolveword.InvResolve (cond (n == 3) resolveword.InvResolveOne (cond (n == 4) resolveword.ResolveIn (cond (n == 5) resolveword.ResolveOneIn (cond (n == 6) resolveword.InvResolveIn (resolveword.InvResolveOneIn)))))))

word_back : (x : ResolveWord) → word_of (word_tag x) ≡ x
unfolding word_of
word_back resolveword.Resolve = refl
word_back resolveword.ResolveOne = refl
word_back resolveword.InvResolve = refl
word_back resolveword.InvResolveOne = refl
word_back resolveword.ResolveIn = refl
word_back resolveword.ResolveOneIn = refl
word_back resolveword.InvResolveIn = refl
word_back resolveword.InvResolveOneIn = refl

pub word_sound : (x y : ResolveWord) → same_word x y ≡ true → x ≡ y
word_sound x y h = sym (word_back x) ∙ ap word_of ((Decides-eqb (word_tag x) (word_tag y)).0 h) ∙ word_back y

pub word_self : (x : ResolveWord) → same_word x x ≡ true
word_self x = (Decides-eqb (word_tag x) (word_tag x)).1 refl

abbrev direction_tag : Direction → ℕ
direction_tag x = tag_of direction_code.the_type x

direction_of : ℕ → Direction
direction_of n = cond (n == 0) direction.Input (cond (n == 1) direction.Output (direction.Both))

direction_back : (x : Direction) → direction_of (direction_tag x) ≡ x
unfolding direction_of
direction_back direction.Input = refl
direction_back direction.Output = refl
direction_back direction.Both = refl

pub direction_sound : (x y : Direction) → same_direction x y ≡ true → x ≡ y
direction_sound x y h = sym (direction_back x) ∙ ap direction_of ((Decides-eqb (direction_tag x) (direction_tag y)).0 h) ∙ direction_back y

pub direction_self : (x : Direction) → same_direction x x ≡ true
direction_self x = (Decides-eqb (direction_tag x) (direction_tag x)).1 refl
