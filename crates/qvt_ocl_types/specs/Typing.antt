-- The type that the table gives an operation at types of its operands.
use Rattle.std.specs.Prelude.{ℕ, Bool, true, false, ◌||◌, List, [], ◌∷◌, if◌then◌else◌, Option, Some, None}
use Rattle.std.specs.Option.{is_some}
use Rattle.qvt_value.specs.declared.value.Kind.{Kind}
use Rattle.qvt_value.specs.declared.value.Kind.TheVariants.{Set}
use Rattle.qvt_ocl_words.specs.declared.op.Op.{Op}
use Rattle.qvt_ocl_words.specs.declared.op.Op.TheVariants.{Equal, NotEqual, IsUndefined, IsInvalid, Plus, Minus, Times, Negate, Less, LessEqual, Greater, GreaterEqual}
use Rattle.qvt_types_data.specs.Term.{TyTerm, Void, Boolean, Integer, Text, Collection}
use Rattle.qvt_ocl_types.specs.Types.{conforms, join}
use Rattle.qvt_ocl_types.specs.declared.signature.Sort.{Sort}
use Rattle.qvt_ocl_types.specs.declared.signature.Sort.TheVariants as sort
use Rattle.qvt_ocl_types.specs.declared.signature.ArgumentSort.{ArgumentSort}
use Rattle.qvt_ocl_types.specs.declared.signature.ArgumentSort.TheVariants as param
use Rattle.qvt_ocl_types.specs.declared.signature.Demand.{Demand}
use Rattle.qvt_ocl_types.specs.declared.signature.Demand.TheVariants.{Any, Integers, Ordered}
use Rattle.qvt_ocl_types.specs.declared.signature.OperationSignature.{OperationSignature}
use Rattle.qvt_ocl_types.specs.Table.{signature, listed, allows}
use Rattle.qvt_ocl_words.specs.Operation.{is_test, is_equality}
use Rattle.qvt_ocl_types.specs.declared.signature.Kinds.{Kinds}
use Rattle.qvt_ocl_types.specs.Rows.{type_of}

-- the operators, which take a source of type Void: `+` and the comparisons as those of String where the other operand is one,
-- else as those of Integer. No step of a dot reads them
abbrev pub is_operator : Op → Bool
is_operator Plus = true
is_operator Minus = true
is_operator Times = true
is_operator Negate = true
is_operator Less = true
is_operator LessEqual = true
is_operator Greater = true
is_operator GreaterEqual = true
is_operator op = false

abbrev pub sort_beside : List TyTerm → Sort
sort_beside (Text ∷ Us) = sort.Text
sort_beside Us = sort.Integer

-- the sort of a source
abbrev pub sort_of : Op → TyTerm → List TyTerm → Option Sort
sort_of op Boolean Us = Some sort.Boolean
sort_of op Integer Us = Some sort.Integer
sort_of op Text Us = Some sort.Text
sort_of op (Collection k T) Us = Some (sort.Collection k)
sort_of op Void Us = if is_operator op then Some (sort_beside Us) else None
sort_of op T Us = None

abbrev pub kind_in : TyTerm → Kind
kind_in (Collection k T) = k
kind_in T = Set

abbrev pub item_in : TyTerm → TyTerm
item_in (Collection k T) = T
item_in T = Void

abbrev pub meets : Demand → TyTerm → Bool
meets Any T = true
meets Integers Integer = true
meets Integers Void = true
meets Ordered Integer = true
meets Ordered Text = true
meets Ordered Void = true
meets d T = false

-- what is asked of all values
abbrev pub is_of_all : Op → Bool
is_of_all op = is_test op || is_equality op

-- the kind of the last collection and the join of item types
pub record Taken : Type 0 where
  pub kind : Kind
  pub joined : TyTerm

module _ (below : ℕ → ℕ → Bool) where
  abbrev pub on_join : Option TyTerm → (TyTerm → Option Taken) → Option Taken
  on_join None f = None
  on_join (Some K) f = f K

  abbrev pub on_items : Kinds → TyTerm → TyTerm → (Kind → TyTerm → Option Taken) → Option Taken
  on_items ok T (Collection l V) f = if allows ok l then on_join (join below T V) (f l) else None
  on_items ok T U f = None

  abbrev pub accepts : List ArgumentSort → Kind → TyTerm → List TyTerm → Option Taken
  accepts [] k T [] = Some (record { kind = k; joined = T })
  accepts (param.Integer ∷ ps) k T (U ∷ Us) = if conforms below U Integer then accepts ps k T Us else None
  accepts (param.Text ∷ ps) k T (U ∷ Us) = if conforms below U Text then accepts ps k T Us else None
  accepts (param.Item ∷ ps) k T (U ∷ Us) = on_join (join below T U) (λ K. accepts ps k K Us)
  accepts (param.Items ok ∷ ps) k T (U ∷ Us) = on_items ok T U (λ l K. accepts ps l K Us)
  accepts ps k T Us = None

  abbrev pub answered : OperationSignature → TyTerm → Option Taken → Option TyTerm
  answered s I None = None
  answered s I (Some t) = Some (type_of s.answer I t.kind t.joined)

  abbrev pub by_signature : Option OperationSignature → TyTerm → List TyTerm → Option TyTerm
  by_signature None T Us = None
  by_signature (Some s) T Us = if meets s.demand (item_in T) then answered s (item_in T) (accepts (listed s.params) (kind_in T) (item_in T) Us) else None

  abbrev pub by_sort : Op → Option Sort → TyTerm → List TyTerm → Option TyTerm
  by_sort op None T Us = None
  by_sort op (Some sort) T Us = by_signature (signature op sort) T Us

  abbrev pub type_of_all : Op → TyTerm → List TyTerm → Option TyTerm
  type_of_all IsUndefined T [] = Some Boolean
  type_of_all IsInvalid T [] = Some Boolean
  type_of_all Equal T (U ∷ []) = if is_some (join below T U) then Some Boolean else None
  type_of_all NotEqual T (U ∷ []) = if is_some (join below T U) then Some Boolean else None
  type_of_all op T Us = None

  -- the type that the table gives, if any
  unfoldable pub answer_type : Op → TyTerm → List TyTerm → Option TyTerm
  answer_type op T Us = if is_of_all op then type_of_all op T Us else by_sort op (sort_of op T Us) T Us
