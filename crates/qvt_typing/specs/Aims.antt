-- What an assignment writes, and what that takes (QVT 1.3, 8.2.2.11 AssignExp).
use Rattle.std.specs.Prelude.{ℕ, Bool, true, false, if◌then◌else◌, List, Option, Some, None}
use Rattle.qvt_base.specs.declared.numbers.FeatureNo.{FeatureNo}
use Rattle.qvt_metamodel.specs.Metamodels.{shape_of, is_single}
use Rattle.qvt_metamodel.specs.Named.{feature_named}
use Rattle.qvt_types_units.specs.Classes.{is_typed}
use Rattle.qvt_types_data.specs.Notes.{plain, unread}
use Rattle.qvt_types_data.specs.declared.note.Reading.TheVariants as reading
use Rattle.qvt_types_data.specs.declared.refusal.RefusalKind.{RefusalKind}
use Rattle.qvt_types_data.specs.declared.refusal.RefusalKind.TheVariants as refusal
use Rattle.qvt_types_data.specs.declared.ruling.Read.{Read}
use Rattle.qvt_types_data.specs.declared.ty.Ty.{Ty}
use Rattle.qvt_types_data.specs.declared.ty.Ty.TheVariants as ty
use Rattle.qvt_types_data.specs.declared.variable.VariableSort.{VariableSort}
use Rattle.qvt_types_data.specs.declared.variable.VariableSort.TheVariants as sort
use Rattle.qvt_types_states.specs.Scopes.{ScopeTerm, found}
use Rattle.qvt_types_states.specs.declared.scope.Known.{Known}
use Rattle.qvt_types_steps.specs.Properties.{feature_in}
use Rattle.qvt_types_steps.specs.declared.classes.ClassPart.{ClassPart}
use Rattle.qvt_types_steps.specs.declared.classes.ClassPart.TheVariants as part
use Rattle.qvt_types_steps.specs.Rulings.{variable_wrong, property_wrong}
use Rattle.qvt_types_steps.specs.Types.{value_type}
use Rattle.qvt_typing.specs.declared.parts.Aim.{Aim}
use Rattle.qvt_typing.specs.declared.parts.Aim.TheVariants.{Nowhere, UntypedProperty, UntypedVariable, Fixed, VariableOf, Property}
use Rattle.qvt_typing.specs.Context.{DeclaredHeads, TypingContext}
use Rattle.qvt_typing.specs.Names.{result_name, model_named}

abbrev pub variable_aim : List ℕ → VariableSort → Option Ty → Aim
variable_aim name k None = UntypedVariable
variable_aim name sort.Settable (Some t) = VariableOf name t
variable_aim name sort.Parameter (Some t) = Fixed
variable_aim name sort.Iterator (Some t) = Fixed
variable_aim name sort.Implicit (Some t) = Fixed

abbrev pub property_aim : DeclaredHeads → Option (List ℕ) → FeatureNo → Aim
property_aim h source f = if is_typed h.first h.flags f.0 then Property source f else UntypedProperty

abbrev pub feature_aim : DeclaredHeads → Option (List ℕ) → Option FeatureNo → Aim → Aim
feature_aim h source None otherwise = otherwise
feature_aim h source (Some f) otherwise = property_aim h source f

-- the property of an object of a class
abbrev pub class_aim : DeclaredHeads → Option (List ℕ) → List ℕ → ClassPart → Aim → Aim
class_aim h source name (part.Class c) otherwise = feature_aim h source (feature_named h.metas c.0 name) otherwise
class_aim h source name part.Untyped otherwise = UntypedProperty
class_aim h source name part.Missing otherwise = otherwise

abbrev pub model_aim : Option ℕ → Aim
model_aim None = Nowhere
model_aim (Some i) = Fixed

abbrev pub known_aim : List ℕ → Option Known → Aim → Aim
known_aim name None otherwise = otherwise
known_aim name (Some k) otherwise = variable_aim name k.sort k.ty

-- a bare name: a variable, else a property of the innermost object expression's object, else one of the object of `result`, which
-- is written out as the implicit source
unfoldable pub bare_aim : TypingContext → ScopeTerm → List ℕ → Aim
bare_aim x s name =
    known_aim name (found name s)
    (class_aim x.heads None name x.object
    (class_aim x.heads (Some result_name) name x.owner
    (model_aim (model_named x.heads name))))

abbrev pub result_aim : Bool → ClassPart → Aim
result_aim sets (part.Class c) = if sets then VariableOf result_name (ty.Class c) else Fixed
result_aim sets part.Untyped = UntypedVariable
result_aim sets part.Missing = Nowhere

-- a property of an object that an expression gives
abbrev pub member_aim : DeclaredHeads → List ℕ → Option Ty → Aim
member_aim h name None = UntypedProperty
member_aim h name (Some t) = feature_aim h None (feature_in h.metas t name) Nowhere

-- nothing has the name: this is told of it
abbrev pub nowhere_told : RefusalKind → Aim → Option RefusalKind
nowhere_told kind Nowhere = Some kind
nowhere_told kind _ = None

abbrev pub aim_read : Aim → Read
aim_read (VariableOf name t) = plain (reading.Variable name) None
aim_read (Property source f) = record { reading = reading.Feature f; source = source; wrap = false; collect = false; answer = None }
aim_read _ = unread

abbrev pub aimed_wrong : DeclaredHeads → Bool → Aim → Ty → Option RefusalKind
aimed_wrong h adds Nowhere t = None
aimed_wrong h adds UntypedProperty t = None
aimed_wrong h adds UntypedVariable t = None
aimed_wrong h adds Fixed t = Some refusal.BadTarget
aimed_wrong h adds (VariableOf name u) t = variable_wrong h.metas adds u t
aimed_wrong h adds (Property source f) t = property_wrong h.metas adds (is_single h.metas f.0) (value_type (shape_of h.metas f.0).kind) t

-- what is told of an assignment of a value
abbrev pub assign_wrong : DeclaredHeads → Bool → Aim → Option Ty → Option RefusalKind
assign_wrong h adds a None = None
assign_wrong h adds a (Some t) = aimed_wrong h adds a t

-- a late resolve may be assigned to a property
abbrev pub takes_late : Aim → Bool
takes_late (Property source f) = true
takes_late UntypedProperty = true
takes_late Nowhere = true
takes_late UntypedVariable = false
takes_late Fixed = false
takes_late (VariableOf name t) = false

-- a property is changed
abbrev pub changes_property : Aim → Bool
changes_property (Property source f) = true
changes_property _ = false
