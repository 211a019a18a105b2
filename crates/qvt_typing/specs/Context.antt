-- What is known where a node stands (QVT 1.3, 8.2.1 and 8.2.2).
use Rattle.std.specs.Prelude.{ℕ, Bool, true, if◌then◌else◌, List, Option}
use Rattle.qvt_metamodel.specs.Metamodels.{Metamodels}
use Rattle.qvt_types_units.specs.Classes.{is_typed}
use Rattle.qvt_types_data.specs.declared.note.Reading.{Reading}
use Rattle.qvt_types_data.specs.declared.note.Reading.TheVariants as reading
use Rattle.qvt_types_data.specs.declared.ruling.Ruling.{Ruling}
use Rattle.qvt_types_data.specs.declared.ruling.Ruling.TheVariants.{Holds, Fails, Silent}
use Rattle.qvt_types_data.specs.declared.ty.Ty.{Ty}
use Rattle.qvt_types_units.specs.ModelTypes.{NamedTypes}
use Rattle.qvt_types_units.specs.declared.models.Models.{Models}
use Rattle.qvt_types_steps.specs.declared.classes.ClassPart.{ClassPart}
use Rattle.qvt_types_units.specs.declared.signature.Signature.{Signature}

-- what the heads of a transformation declare
pub record DeclaredHeads : Type 0 where
  -- the metamodels of the job, and these with Element and the intermediate classes
  pub given : Metamodels
  pub metas : Metamodels
  pub types : NamedTypes
  pub models : Models
  -- the units, by their numbers
  pub units : List Signature
  -- the number of the first feature of an intermediate class, and which of these have a type
  pub first : ℕ
  pub flags : List Bool

-- what a `return` may have
pub data ReturnRule : Type 0 where
  NoValue : ReturnRule
  -- a value of the answer type, if that is known
  Value : Option Ty → ReturnRule
  -- no `return` may stand there
  Never : ReturnRule

pub record TypingContext : Type 0 where
  pub heads : DeclaredHeads
  -- in a query, a `when`, or the body of an iterator other than collect and collectNested: nothing is made or changed
  pub pure : Bool
  -- in the condition of a resolve
  pub plain : Bool
  pub returns : ReturnRule
  -- the classes of `self` and of `result`, Missing where there is none
  pub self : ClassPart
  pub result : ClassPart
  -- in an init section, where `result` may be assigned
  pub sets_result : Bool
  -- the class of the innermost object expression, and that of `result` where bare names at the left mean its properties else
  pub object : ClassPart
  pub owner : ClassPart

abbrev pub is_typed_reading : DeclaredHeads → Reading → Bool
is_typed_reading h (reading.Feature f) = is_typed h.first h.flags f.0
is_typed_reading h r = true

-- a property of an intermediate class whose type is unknown leaves what reads it without a type
abbrev pub unless_untyped : DeclaredHeads → Ruling → Ruling
unless_untyped h (Holds r) = if is_typed_reading h r.reading then Holds r else Silent
unless_untyped h (Fails kind) = Fails kind
unless_untyped h Silent = Silent
