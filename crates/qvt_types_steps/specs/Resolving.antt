-- What is ruled of a resolve by its source and its class (QVT 1.3, 8.1.10 and 8.2.1.22).
use Rattle.std.specs.Prelude.{Bool, true, false, if◌then◌else◌, Option, Some, None}
use Rattle.qvt_base.specs.declared.numbers.ClassNo.{ClassNo}
use Rattle.qvt_types_words.specs.Metamodels.{Metamodels}
use Rattle.qvt_tree_types.specs.Resolves.{is_one, is_inverse}
use Rattle.qvt_tree_types.specs.declared.words.CollKind.TheVariants as coll
use Rattle.qvt_tree_types.specs.declared.words.ResolveWord.{ResolveWord}
use Rattle.qvt_types_data.specs.declared.ty.Ty.{Ty}
use Rattle.qvt_types_data.specs.declared.ty.Ty.TheVariants as ty
use Rattle.qvt_types_data.specs.declared.refusal.RefusalKind.TheVariants as refusal
use Rattle.qvt_types_data.specs.declared.ruling.Ruling.{Ruling}
use Rattle.qvt_types_data.specs.declared.ruling.Ruling.TheVariants.{Fails, Silent}
use Rattle.qvt_types_data.specs.Notes.{ruled_wrapped}
use Rattle.qvt_types_words.specs.Rulings.{typed, typed_if}
use Rattle.qvt_types_words.specs.Types.{conforms}
use Rattle.qvt_types_steps.specs.Calls.{source_of, is_single_type}
use Rattle.qvt_types_steps.specs.Classes.{is_untyped}
use Rattle.qvt_types_steps.specs.Iterators.{is_object}
use Rattle.qvt_types_steps.specs.declared.classes.ClassPart.{ClassPart}
use Rattle.qvt_types_steps.specs.declared.classes.ClassPart.TheVariants as part
use Rattle.qvt_types_steps.specs.declared.resolves.Joint.{Joint}
use Rattle.qvt_types_steps.specs.declared.resolves.Joint.TheVariants.{Sourceless, Dot, Arrow}

-- the class that is looked for in a form that names a mapping and has no filter: the mapping's result, in the inverse forms its
-- context
abbrev pub class_within : ResolveWord → ClassPart → ClassPart → ClassPart
class_within w result context = if is_inverse w then context else result

-- one object, or a Sequence
abbrev pub resolve_type : ResolveWord → ClassNo → Ty
resolve_type w c = if is_one w then ty.Class c else ty.Coll coll.Sequence (ty.Class c)

-- of a class, or where there is none WrongType
abbrev pub looked_for : ResolveWord → ClassPart → Ruling
looked_for w (part.Class c) = typed (resolve_type w c)
looked_for w part.Missing = Fails refusal.WrongType
looked_for w part.Untyped = Silent

-- the source is an object, null, or a collection of these
abbrev pub is_source : Ty → Bool
is_source t = is_object (source_of t).item

abbrev pub resolve_over : ResolveWord → Ty → ClassPart → Ruling
resolve_over w t p =
    if is_untyped p then Silent
    else if is_source t then looked_for w p
    else Fails refusal.WrongType

-- a resolve behind a source, or without one
abbrev pub resolve : Joint → ResolveWord → Option Ty → ClassPart → Ruling
resolve Sourceless w source p = looked_for w p
resolve Dot w None p = Silent
resolve Dot w (Some t) p = resolve_over w t p
resolve Arrow w None p = Silent
resolve Arrow w (Some t) p = ruled_wrapped (is_single_type t) (resolve_over w t p)

-- a filter: its class, and its condition if it has one
abbrev pub filter_if : Metamodels → Ty → Option Ty → Ruling
filter_if m k None = Silent
filter_if m k (Some t) = typed_if (conforms m t ty.Boolean) k

abbrev pub filter : Metamodels → Option Ty → Bool → Option Ty → Ruling
filter m None has_condition condition = Silent
filter m (Some k) false condition = typed k
filter m (Some k) true condition = filter_if m k condition
