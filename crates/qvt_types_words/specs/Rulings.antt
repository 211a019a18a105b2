-- What is ruled of a node by the types of its parts alone.
use Rattle.std.specs.Prelude.{◌&&◌, ◌||◌, Bool, true, false, if◌then◌else◌, List, [], ◌∷◌, Option, Some, None}
use Rattle.qvt_metas.specs.Metamodels.{Metamodels}
use Rattle.qvt_tree_types.specs.declared.words.BinaryOp.{BinaryOp}
use Rattle.qvt_tree_types.specs.declared.words.BinaryOp.TheVariants as op
use Rattle.qvt_tree_types.specs.declared.words.PrefixOp.{PrefixOp}
use Rattle.qvt_tree_types.specs.declared.words.PrefixOp.TheVariants as sign
use Rattle.qvt_tree_types.specs.declared.words.CollKind.{CollKind}
use Rattle.qvt_types_data.specs.declared.ty.Ty.{Ty}
use Rattle.qvt_types_data.specs.declared.ty.Ty.TheVariants as ty
use Rattle.qvt_types_data.specs.Notes.{plain}
use Rattle.qvt_types_data.specs.declared.note.Reading.TheVariants as reading
use Rattle.qvt_types_data.specs.declared.refusal.RefusalKind.{RefusalKind}
use Rattle.qvt_types_data.specs.declared.refusal.RefusalKind.TheVariants as refusal
use Rattle.qvt_types_data.specs.declared.ruling.Ruling.{Ruling}
use Rattle.qvt_types_data.specs.declared.ruling.Ruling.TheVariants.{Holds, Fails, Silent}
use Rattle.qvt_ocl_types.specs.declared.op.Op.{Op}
use Rattle.qvt_ocl_types.specs.declared.op.Op.TheVariants.{Equal, NotEqual, Plus, Minus, Times, Negate, Less, LessEqual, Greater, GreaterEqual}
use Rattle.qvt_types_words.specs.Answers.{answer}
use Rattle.qvt_types_words.specs.Types.{conforms, join, is_void, Collection, collection_of}

-- the node has this type, and nothing is read
abbrev pub typed : Ty → Ruling
typed t = Holds (plain reading.Nothing (Some t))

-- a type, or WrongType
abbrev pub or_wrong : Option Ty → Ruling
or_wrong None = Fails refusal.WrongType
or_wrong (Some t) = typed t

abbrev pub typed_if : Bool → Ty → Ruling
typed_if b t = if b then typed t else Fails refusal.WrongType

-- two operands of one type
abbrev pub both : Metamodels → Ty → Ty → Ty → Bool
both m want a b = conforms m a want && conforms m b want

-- the operation that an operator between two operands is. The words of logic are none: they take Booleans
abbrev pub operation_of : BinaryOp → Option Op
operation_of op.Implies = None
operation_of op.Xor = None
operation_of op.Or = None
operation_of op.And = None
operation_of op.Equal = Some Equal
operation_of op.NotEqual = Some NotEqual
operation_of op.Less = Some Less
operation_of op.LessEqual = Some LessEqual
operation_of op.Greater = Some Greater
operation_of op.GreaterEqual = Some GreaterEqual
operation_of op.Plus = Some Plus
operation_of op.Minus = Some Minus
operation_of op.Times = Some Times

-- what the table of operations answers, or WrongType
abbrev pub by_table : Metamodels → Option Op → Ty → Ty → Ruling
by_table m None a b = typed_if (both m ty.Boolean a b) ty.Boolean
by_table m (Some o) a b = or_wrong (answer m o a (b ∷ []))

abbrev pub operated : Metamodels → BinaryOp → Ty → Ty → Ruling
operated m o a b = by_table m (operation_of o) a b

-- an operator between two operands
abbrev pub operator : Metamodels → BinaryOp → Option Ty → Option Ty → Ruling
operator m o (Some a) (Some b) = operated m o a b
operator m o None _ = Silent
operator m o (Some a) None = Silent

abbrev pub signed : Metamodels → PrefixOp → Ty → Ruling
signed m sign.Not t = typed_if (conforms m t ty.Boolean) ty.Boolean
signed m sign.Minus t = or_wrong (answer m Negate t [])

-- an operator before its operand
abbrev pub prefixed : Metamodels → PrefixOp → Option Ty → Ruling
prefixed m o None = Silent
prefixed m o (Some t) = signed m o t

abbrev pub chosen : Metamodels → Ty → Ty → Ty → Ruling
chosen m c y z = if conforms m c ty.Boolean then or_wrong (join m y z) else Fails refusal.WrongType

-- a conditional
abbrev pub conditional : Metamodels → Option Ty → Option Ty → Option Ty → Ruling
conditional m (Some c) (Some y) (Some z) = chosen m c y z
conditional m None _ _ = Silent
conditional m (Some c) None _ = Silent
conditional m (Some c) (Some y) None = Silent

-- items join from the left, pair by pair
abbrev pub joined_from : Metamodels → Option Ty → List Ty → Option Ty
joined_from m None ts = None
joined_from m (Some u) [] = Some u
joined_from m (Some u) (t ∷ ts) = joined_from m (join m u t) ts

abbrev pub coll_or_wrong : CollKind → Option Ty → Ruling
coll_or_wrong k None = Fails refusal.WrongType
coll_or_wrong k (Some t) = typed (ty.Coll k t)

-- a collection literal
abbrev pub literal : Metamodels → CollKind → Option (List Ty) → Ruling
literal m k None = Silent
literal m k (Some ts) = coll_or_wrong k (joined_from m (Some ty.Void) ts)

-- a range: both ends are Integers
abbrev pub range : Metamodels → Option Ty → Option Ty → Ruling
range m (Some a) (Some b) = typed_if (both m ty.Integer a b) ty.Integer
range m None _ = Silent
range m (Some a) None = Silent

-- the type of a range
abbrev pub range_type : Metamodels → Option Ty → Option Ty → Option Ty
range_type m (Some a) (Some b) = if both m ty.Integer a b then Some ty.Integer else None
range_type m None _ = None
range_type m (Some a) None = None

-- Refusals that leave types standing: the kind that is told, if one is.
abbrev pub wrong_unless : Bool → Option RefusalKind
wrong_unless true = None
wrong_unless false = Some refusal.WrongType

-- a `var` with and without type and value
abbrev pub var_wrong : Metamodels → Bool → Option Ty → Bool → Option Ty → Option RefusalKind
var_wrong m true (Some k) true (Some t) = wrong_unless (conforms m t k)
var_wrong m true _ _ _ = None
var_wrong m false _ true (Some t) = if is_void t then Some refusal.WrongType else None
var_wrong m false _ true None = None
var_wrong m false _ false _ = Some refusal.WrongType

abbrev pub unless_void : Option Ty → Option Ty
unless_void None = None
unless_void (Some t) = if is_void t then None else Some t

abbrev pub var_type : Bool → Option Ty → Option Ty → Option Ty
var_type true k t = k
var_type false k t = unless_void t

-- a collection whose items conform to the type
abbrev pub items_conform : Metamodels → Option Collection → Ty → Bool
items_conform m None u = false
items_conform m (Some c) u = conforms m c.item u

-- `+=` to a variable: a collection takes an item, or the items of a collection of any kind
abbrev pub adds_wrong : Metamodels → Option Collection → Ty → Option RefusalKind
adds_wrong m None t = Some refusal.BadTarget
adds_wrong m (Some c) t = wrong_unless (items_conform m (collection_of t) c.item || conforms m t c.item)

-- an assignment to a variable
abbrev pub variable_wrong : Metamodels → Bool → Ty → Ty → Option RefusalKind
variable_wrong m true u t = adds_wrong m (collection_of u) t
variable_wrong m false u t = wrong_unless (conforms m t u)

-- an assignment to a property of which a value has this type: with an upper bound above 1 it takes a collection of any kind too
abbrev pub property_wrong : Metamodels → Bool → Bool → Ty → Ty → Option RefusalKind
property_wrong m adds true u t = if adds && conforms m t u then Some refusal.BadTarget else wrong_unless (conforms m t u)
property_wrong m adds false u t = wrong_unless (conforms m t u || items_conform m (collection_of t) u)
