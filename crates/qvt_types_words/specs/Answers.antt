-- The table of operations over the types of the program: what an operation answers at types of its source and its arguments,
-- and how many arguments it takes (OCL 2.4, 11).
use Rattle.std.specs.Prelude.{ℕ, Bool, if◌then◌else◌, List, [], length, map, Option, Some, None, option_map}
use Rattle.qvt_metas.specs.Metamodels.{Metamodels}
use Rattle.qvt_metas.specs.Descends.{descends}
use Rattle.qvt_ocl_types.specs.declared.op.Op.{Op}
use Rattle.qvt_ocl_types.specs.Operation.{is_test, is_equality}
use Rattle.qvt_ocl_types.specs.Table.{signature, listed}
use Rattle.qvt_ocl_types.specs.Typing.{Taken, sort_of, accepts, answer_type}
use Rattle.qvt_ocl_types.specs.declared.signature.ArgumentSort.{ArgumentSort}
use Rattle.qvt_ocl_types.specs.declared.signature.OperationSignature.{OperationSignature}
use Rattle.qvt_ocl_types.specs.declared.signature.Sort.{Sort}
use Rattle.qvt_types_data.specs.Term.{TyTerm, ty_view, ty_of}
use Rattle.qvt_types_data.specs.declared.ty.Ty.{Ty}
use Rattle.qvt_types_words.specs.declared.answers.Accepted.{Accepted}

-- types as plain data
abbrev pub plain_types : List Ty → List TyTerm
plain_types ts = map ty_view ts

-- the type that the table gives the operation at these types of its source and its arguments, if any
unfoldable pub answer : Metamodels → Op → Ty → List Ty → Option Ty
answer m op t us = option_map ty_of (answer_type (descends m) op (ty_view t) (plain_types us))

abbrev pub signature_at : Op → Option Sort → Option OperationSignature
signature_at op None = None
signature_at op (Some s) = signature op s

abbrev pub params_of : Option OperationSignature → Option ℕ
params_of None = None
params_of (Some s) = Some (length (listed s.params))

-- how many arguments the operation takes at a source of the type: None where no such source has it
unfoldable pub arity : Op → Ty → Option ℕ
arity op t =
    if is_test op then Some 0
    else if is_equality op then Some 1
    else params_of (signature_at op (sort_of op (ty_view t) []))

-- what arguments come to, by plain data
abbrev pub accepted_view : Accepted → Taken
accepted_view a = record { kind = a.kind; joined = ty_view a.joined }

-- what is taken of the other arguments, after what was taken of those before them
abbrev pub after : (ℕ → ℕ → Bool) → List ArgumentSort → List TyTerm → Option Taken → Option Taken
after below ps Us None = None
after below ps Us (Some t) = accepts below ps t.kind t.joined Us
