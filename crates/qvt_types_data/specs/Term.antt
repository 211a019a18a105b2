-- Types as plain data (OCL 2.4, 7.4 and 11.2), and the plain type of a type of the program.
use Rattle.std.specs.Prelude.{ℕ, Bool, true, false, ◌==◌, ◌&&◌}
use Rattle.qvt_tree_types.specs.declared.words.CollKind.{CollKind}
use Rattle.qvt_tree_types.specs.declared.words.CollKind.TheVariants as coll
use Rattle.qvt_value.specs.Order.{kind_rank}
use Rattle.qvt_value.specs.declared.value.Kind.{Kind}
use Rattle.qvt_value.specs.declared.value.Kind.TheVariants.{Set, Bag, Sequence, OrderedSet}
use Rattle.qvt_types_data.specs.declared.ty.Ty.{Ty, fold-Ty}
use Rattle.qvt_types_data.specs.declared.ty.Ty.TheOpen.{Ty-F}
use Rattle.qvt_types_data.specs.declared.ty.Ty.TheVariants as ty

pub data TyTerm : Type 0 where
  -- the type of null
  Void : TyTerm
  Boolean : TyTerm
  Integer : TyTerm
  Text : TyTerm
  -- an enumeration, by the numbers of its metamodel and itself
  Literals : ℕ → ℕ → TyTerm
  Class : ℕ → TyTerm
  -- collections of the kind, with items of the type
  Collection : Kind → TyTerm → TyTerm

-- the kind that a word of a text stands for
abbrev pub kind_of : CollKind → Kind
kind_of coll.Set = Set
kind_of coll.Bag = Bag
kind_of coll.Sequence = Sequence
kind_of coll.OrderedSet = OrderedSet

abbrev pub ty_step : Ty-F TyTerm → TyTerm
ty_step Ty-F.Void = Void
ty_step Ty-F.Boolean = Boolean
ty_step Ty-F.Integer = Integer
ty_step Ty-F.Str = Text
ty_step (Ty-F.Enum m e) = Literals m e
ty_step (Ty-F.Class c) = Class c.0
ty_step (Ty-F.Coll k T) = Collection (kind_of k) T

abbrev pub ty_view : Ty → TyTerm
ty_view = fold-Ty TyTerm ty_step

-- the word of a text that stands for the kind
abbrev pub word_of : Kind → CollKind
word_of Set = coll.Set
word_of Bag = coll.Bag
word_of Sequence = coll.Sequence
word_of OrderedSet = coll.OrderedSet

-- the type of the program that a plain type is
abbrev pub ty_of : TyTerm → Ty
ty_of Void = ty.Void
ty_of Boolean = ty.Boolean
ty_of Integer = ty.Integer
ty_of Text = ty.Str
ty_of (Literals m e) = ty.Enum m e
ty_of (Class c) = ty.Class (record { 0 = c })
ty_of (Collection k T) = ty.Coll (word_of k) (ty_of T)

-- whether two types are one
abbrev pub same_type : TyTerm → TyTerm → Bool
same_type Void Void = true
same_type Boolean Boolean = true
same_type Integer Integer = true
same_type Text Text = true
same_type (Literals m e) (Literals n f) = (m == n) && (e == f)
same_type (Class c) (Class d) = c == d
same_type (Collection k T) (Collection l U) = (kind_rank k == kind_rank l) && same_type T U
same_type T U = false
