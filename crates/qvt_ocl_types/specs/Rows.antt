-- What each row of the table says of values.
use Rattle.std.specs.Prelude.{◌≡◌, ℕ, ⊤, Bool, true, false, ℤ, List, [], ◌∷◌, Option, Some, None, IsSomeAnd}
use Rattle.qvt_base.specs.declared.numbers.Oid.{Oid}
use Rattle.qvt_base.specs.declared.numbers.Place.{Place}
use Rattle.qvt_value.specs.declared.value.LiteralRef.{LiteralRef}
use Rattle.qvt_value.specs.declared.value.Value.{Value, Bool as Truth, Int, Str, Coll', Row_of-Value, items-the_row-Value}
use Rattle.qvt_value.specs.declared.value.Kind.{Kind}
use Rattle.qvt_value.specs.declared.value.Kind.TheVariants.{Set, Bag, Sequence}
use Rattle.qvt_value.specs.Make.{is_invalid}
use Rattle.qvt_ocl_words.specs.declared.op.Op.{Op}
use Rattle.qvt_ocl_words.specs.Operation.{on_present}
use Rattle.qvt_types_data.specs.Term.{TyTerm, Void, Boolean, Integer, Text, Collection}
use Rattle.qvt_ocl_types.specs.Types.{innermost}
use Rattle.qvt_ocl_types.specs.declared.signature.Sort.{Sort}
use Rattle.qvt_ocl_types.specs.declared.signature.Sort.TheVariants as sort
use Rattle.qvt_ocl_types.specs.declared.signature.ArgumentSort.{ArgumentSort}
use Rattle.qvt_ocl_types.specs.declared.signature.ArgumentSort.TheVariants as param
use Rattle.qvt_ocl_types.specs.declared.signature.Demand.{Demand}
use Rattle.qvt_ocl_types.specs.declared.signature.Demand.TheVariants.{Any, Integers, Ordered}
use Rattle.qvt_ocl_types.specs.declared.signature.AnswerType.{AnswerType}
use Rattle.qvt_ocl_types.specs.declared.signature.AnswerType.TheVariants as answer
use Rattle.qvt_ocl_types.specs.declared.signature.OperationSignature.{OperationSignature}
use Rattle.qvt_ocl_types.specs.Table.{signature, listed, allows}
use Rattle.qvt_ocl_types.specs.Fits.{Each, Sure, Fits}

-- the kind of what two collections have in common
abbrev pub kind_in_common : Kind → Kind → Kind
kind_in_common Bag Bag = Bag
kind_in_common k l = Set

-- of the item type I, the join T and the kind l of the argument
abbrev pub type_of : AnswerType → TyTerm → Kind → TyTerm → TyTerm
type_of answer.Boolean I l T = Boolean
type_of answer.Integer I l T = Integer
type_of answer.Text I l T = Text
type_of answer.Texts I l T = Collection Sequence Text
type_of answer.Item I l T = I
type_of (answer.Items k) I l T = Collection k I
type_of (answer.Innermost k) I l T = Collection k (innermost I)
type_of (answer.Joined k) I l T = Collection k T
type_of (answer.Common k) I l T = Collection (kind_in_common k l) I

-- the item type is as demanded
pub data AreOrdered : TyTerm → Type 0 where
  numbers : AreOrdered Integer
  texts : AreOrdered Text
  nothing : AreOrdered Void

pub data AreIntegers : TyTerm → Type 0 where
  numbers' : AreIntegers Integer
  nothing' : AreIntegers Void

abbrev pub Meets : Demand → TyTerm → Type 0
Meets Any I = ⊤
Meets Integers I = AreIntegers I
Meets Ordered I = AreOrdered I

module _ (literals : ℕ → ℕ → LiteralRef → Bool) (objects : ℕ → Oid → Bool) where
  abbrev In : TyTerm → Value → Type 0
  In S v = Fits literals objects S v

  -- what fits T fits U
  pub record FitsWithin (S U : TyTerm) : Type 0 where
    pub fits : (v : Value) → In S v → In U v

  -- arguments of these sorts, T being the join so far and k the kind of the last collection
  abbrev pub GivenArguments : List ArgumentSort → Kind → TyTerm → (Kind → TyTerm → List Value → Type 0) → Type 0
  GivenArguments [] k T P = P k T []
  GivenArguments (param.Integer ∷ ps) k T P = (n : ℤ) → GivenArguments ps k T (λ l K vs. P l K (Int n ∷ vs))
  GivenArguments (param.Text ∷ ps) k T P = (s : List ℕ) → GivenArguments ps k T (λ l K vs. P l K (Str s ∷ vs))
  GivenArguments (param.Item ∷ ps) k T P = (K : TyTerm) → FitsWithin T K → (x : Value) → Sure (In K) x → GivenArguments ps k K (λ l L vs. P l L (x ∷ vs))
  GivenArguments (param.Items ok ∷ ps) k T P = (K : TyTerm) → FitsWithin T K → (l : Kind) → allows ok l ≡ true → (s : _) (r : _) → Each (Sure (In K)) (items-the_row-Value _ r) → GivenArguments ps l K (λ m L vs. P m L (Coll' l s r ∷ vs))

  -- the operation has a value, and it fits
  abbrev pub Says : Op → Value → AnswerType → TyTerm → Kind → TyTerm → List Value → Type 0
  Says op v answer I l T vs = (at : Place) → IsSomeAnd (on_present op at v vs) (In (type_of answer I l T))

  abbrev pub RowHolds : Op → Sort → OperationSignature → Type 0
  RowHolds op sort.Boolean s = (b : Bool) → GivenArguments (listed s.params) Set Void (Says op (Truth b) s.answer Void)
  RowHolds op sort.Integer s = (n : ℤ) → GivenArguments (listed s.params) Set Void (Says op (Int n) s.answer Void)
  RowHolds op sort.Text s = (t : List ℕ) → GivenArguments (listed s.params) Set Void (Says op (Str t) s.answer Void)
  RowHolds op (sort.Collection k) s = (I : TyTerm) → Meets s.demand I → (z : _) (r : _) → Each (Sure (In I)) (items-the_row-Value _ r) → GivenArguments (listed s.params) k I (Says op (Coll' k z r) s.answer I)

  abbrev pub Holds : Op → Sort → Option OperationSignature → Type 0
  Holds op sort None = ⊤
  Holds op sort (Some s) = RowHolds op sort s

abbrev pub EachRow : Type 0
EachRow = (literals : ℕ → ℕ → LiteralRef → Bool) (objects : ℕ → Oid → Bool) (op : Op) (sort : Sort) → Holds literals objects op sort (signature op sort)
