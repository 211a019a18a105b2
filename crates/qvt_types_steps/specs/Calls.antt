-- What is ruled of a step that calls an operation: by a dot, which over a collection applies to each item (OCL 2.4, 7.6.2, the
-- implicit collect), and by an arrow, before which a single value is wrapped in a Set (7.5.3).
use Rattle.std.specs.Option.{is_some}
use Rattle.std.specs.Prelude.{ℕ, ◌==◌, Bool, not, if◌then◌else◌, List, length, Option, Some, None}
use Rattle.qvt_types_words.specs.Metamodels.{Metamodels}
use Rattle.qvt_types_words.specs.declared.op.Op.{Op}
use Rattle.qvt_tree_types.specs.declared.words.CollKind.{CollKind}
use Rattle.qvt_tree_types.specs.declared.words.CollKind.TheVariants as coll
use Rattle.qvt_types_data.specs.declared.ty.Ty.{Ty}
use Rattle.qvt_types_data.specs.declared.ty.Ty.TheVariants as ty
use Rattle.qvt_types_data.specs.Notes.{plain, ruled_for_each_item}
use Rattle.qvt_types_data.specs.declared.note.Reading.TheVariants as reading
use Rattle.qvt_types_data.specs.declared.refusal.RefusalKind.TheVariants as refusal
use Rattle.qvt_types_data.specs.declared.ruling.Ruling.{Ruling}
use Rattle.qvt_types_data.specs.declared.ruling.Ruling.TheVariants.{Holds, Fails, Silent}
use Rattle.qvt_types_words.specs.Answers.{answer, arity}
use Rattle.qvt_types_words.specs.OperationNames.{operation_named}
use Rattle.qvt_types_words.specs.Types.{innermost, collected_kind, Collection, collection_of}

-- The implicit collect: what a dot answers for the items of a collection is flattened, a Sequence from ordered kinds, else a Bag.

abbrev pub flattened : CollKind → Option Ty → Option Ty
flattened k None = None
flattened k (Some t) = Some (ty.Coll (collected_kind k) (innermost t))

abbrev pub all_answers : CollKind → Ruling → Option Ty
all_answers k (Holds r) = flattened k r.answer
all_answers k (Fails kind) = None
all_answers k Silent = None

abbrev pub collected_over : Option Collection → Ruling → Ruling
collected_over None r = r
collected_over (Some c) r = ruled_for_each_item (all_answers c.kind r) r

-- what is ruled of a dot on this type, by what is ruled of it on the innermost items
abbrev pub collected : Ty → Ruling → Ruling
collected t r = collected_over (collection_of t) r

-- The wrap.

abbrev pub source_in : Ty → Option Collection → Collection
source_in t None = record { kind = coll.Set; item = t }
source_in t (Some c) = c

-- what an arrow goes over: a collection, or a Set with the single value
abbrev pub source_of : Ty → Collection
source_of t = source_in t (collection_of t)

abbrev pub is_single_type : Ty → Bool
is_single_type t = not (is_some (collection_of t))

-- Calls of operations.

-- the type that the table gives, or WrongType
abbrev pub operation_read : List ℕ → Option Ty → Ruling
operation_read name None = Fails refusal.WrongType
operation_read name (Some t) = Holds (plain (reading.Operation name) (Some t))

-- no such source has the operation: UnknownName; another number of arguments: WrongCount
abbrev pub counted : Option ℕ → ℕ → Ruling → Ruling
counted None n r = Fails refusal.UnknownName
counted (Some k) n r = if n == k then r else Fails refusal.WrongCount

abbrev pub applied : Metamodels → List ℕ → Option Op → Ty → List Ty → Ruling
applied m name None t us = Fails refusal.UnknownName
applied m name (Some op) t us = counted (arity op t) (length us) (operation_read name (answer m op t us))

-- the operation of this name at a source of this type
abbrev pub call : Metamodels → List ℕ → Ty → List Ty → Ruling
call m name t us = applied m name (operation_named name) t us

-- a call behind a dot
abbrev pub dot_call : Metamodels → List ℕ → Option Ty → Option (List Ty) → Ruling
dot_call m name (Some t) (Some us) = collected t (call m name (innermost t) us)
dot_call m name None us = Silent
dot_call m name (Some t) None = Silent

abbrev pub arity_of : Option Op → Ty → Option ℕ
arity_of None t = None
arity_of (Some op) t = arity op t

-- how many arguments the operation of this name takes, None where the source has none of this name
abbrev pub named_arity : List ℕ → Ty → Option ℕ
named_arity name t = arity_of (operation_named name) t

-- behind a dot on this type the name is that of an operation: where it is not, a step with arguments calls a unit
abbrev pub has_operation : List ℕ → Ty → Bool
has_operation name t = is_some (named_arity name (innermost t))
