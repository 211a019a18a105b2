-- Calls of units: which units a call chooses among, and what is ruled of it (QVT 1.3, 8.2.1.10, 8.2.1.13, 8.2.1.15 and 8.2.2).
use Rattle.std.specs.Prelude.{ℕ, Bool, true, false, if◌then◌else◌, List, [], ◌∷◌, Option, Some, None, Result, Ok, Err}
use Rattle.std.specs.List.{flat_map}
use Rattle.qvt_base.specs.declared.numbers.MappingNo.{MappingNo}
use Rattle.qvt_types_data.specs.declared.note.Reading.{Reading}
use Rattle.qvt_types_data.specs.declared.note.Reading.TheVariants as reading
use Rattle.qvt_types_data.specs.declared.refusal.RefusalKind.{RefusalKind}
use Rattle.qvt_types_data.specs.declared.refusal.RefusalKind.TheVariants as refusal
use Rattle.qvt_types_data.specs.declared.ruling.Ruling.{Ruling}
use Rattle.qvt_types_data.specs.declared.ruling.Ruling.TheVariants.{Holds, Fails, Silent}
use Rattle.qvt_types_data.specs.declared.ty.Ty.{Ty}
use Rattle.qvt_types_data.specs.declared.variable.Variable.{Variable}
use Rattle.qvt_types_steps.specs.UnitCalls.{class_in, static_class, arguments_wrong, unit_step, mapping_step}
use Rattle.qvt_types_steps.specs.declared.classes.ClassPart.{ClassPart}
use Rattle.qvt_types_steps.specs.declared.classes.ClassPart.TheVariants as part
use Rattle.qvt_types_units.specs.Choice.{called_on, is_unsure}
use Rattle.qvt_types_units.specs.declared.choice.FoundUnit.{FoundUnit}
use Rattle.qvt_types_units.specs.declared.choice.FoundUnit.TheVariants.{NoUnit, Untyped, Unclear, Chosen}
use Rattle.qvt_types_units.specs.Numbers.{unit_at, group, free_unit}
use Rattle.qvt_types_units.specs.declared.signature.UnitSort.{UnitSort}
use Rattle.qvt_types_units.specs.declared.signature.UnitSort.TheVariants as sort
use Rattle.qvt_typing.specs.declared.parts.Called.{Called}
use Rattle.qvt_typing.specs.declared.parts.Effect.{Effect}
use Rattle.qvt_typing.specs.declared.parts.Effect.TheVariants.{PlainOne, PureOne, ImpureOne}
use Rattle.qvt_typing.specs.Context.{DeclaredHeads, TypingContext}

abbrev pub nothing_called : Called
nothing_called = record { found = NoUnit; units = []; source = None }

-- where the context of one unit of the name is unknown, no call by the name has a type
abbrev pub unless_unsure : DeclaredHeads → List ℕ → Called → Called
unless_unsure h units called = if is_unsure h.units units then record { found = Untyped; units = units; source = None } else called

abbrev pub on_class : DeclaredHeads → Bool → List ℕ → ClassPart → FoundUnit
on_class h maps name (part.Class c) = called_on h.metas h.units maps name c.0
on_class h maps name part.Untyped = Untyped
on_class h maps name part.Missing = NoUnit

-- behind a step
abbrev pub called_behind : DeclaredHeads → Bool → Bool → List ℕ → Option Ty → Called
called_behind h maps arrow name o =
    unless_unsure h (group maps name h.units) (record { found = on_class h maps name (static_class arrow o); units = group maps name h.units; source = None })

abbrev pub unless_none : FoundUnit → Called → Called → Called
unless_none NoUnit called otherwise = otherwise
unless_none Untyped called otherwise = called
unless_none Unclear called otherwise = called
unless_none (Chosen n) called otherwise = called

abbrev pub class_part_of : Option Ty → ClassPart
class_part_of None = part.Untyped
class_part_of (Some t) = class_in t

abbrev pub called_from : DeclaredHeads → Bool → List ℕ → Variable → Called
called_from h maps name v = record { found = on_class h maps name (class_part_of v.ty); units = group maps name h.units; source = Some v.name }

-- on the nearest implicit source that has it; the sources stand with the nearest last
abbrev pub called_implicitly : DeclaredHeads → Bool → List ℕ → Called → List Variable → Called
called_implicitly h maps name otherwise [] = otherwise
called_implicitly h maps name otherwise (v ∷ vs) =
    called_implicitly h maps name (unless_none (called_from h maps name v).found (called_from h maps name v) otherwise) vs

abbrev pub free_or : Option ℕ → Called → Called
free_or None otherwise = otherwise
free_or (Some n) otherwise = record { found = Chosen n; units = n ∷ []; source = None }

-- without a step: a unit without a context, else one with a context on an implicit source
unfoldable pub called_alone : DeclaredHeads → Bool → List ℕ → List Variable → Called
called_alone h maps name sources =
    unless_unsure h (group maps name h.units) (free_or (free_unit maps name h.units) (called_implicitly h maps name nothing_called sources))

abbrev pub mapping_number : UnitSort → List MappingNo
mapping_number (sort.Mapping n) = n ∷ []
mapping_number _ = []

abbrev pub numbers_of : DeclaredHeads → List ℕ → List MappingNo
numbers_of h ns = flat_map (λ n. mapping_number (unit_at h.units n).sort) ns

abbrev pub reading_of : DeclaredHeads → Bool → List ℕ → Reading
reading_of h true ns = reading.Mappings (numbers_of h ns)
reading_of h false ns = reading.Units ns

abbrev pub unless_wrong : Option RefusalKind → Ruling → Ruling
unless_wrong None r = r
unless_wrong (Some kind) r = Fails kind

-- the unit that is called with arguments of these types, or what is ruled where none is
abbrev pub fitting : Option RefusalKind → ℕ → Result ℕ Ruling
fitting None n = Ok n
fitting (Some kind) n = Err (Fails kind)

abbrev pub unit_called : DeclaredHeads → FoundUnit → Option (List Ty) → Result ℕ Ruling
unit_called h found None = Err Silent
unit_called h NoUnit (Some us) = Err (Fails refusal.UnknownName)
unit_called h Untyped (Some us) = Err Silent
unit_called h Unclear (Some us) = Err (Fails refusal.Ambiguous)
unit_called h (Chosen n) (Some us) = fitting (arguments_wrong h.metas (unit_at h.units n).params us) n

abbrev pub or_ruled : Result ℕ Ruling → (ℕ → Ruling) → Ruling
or_ruled (Ok n) f = f n
or_ruled (Err r) f = r

abbrev pub alone : Reading → Option (List ℕ) → Option Ty → Ruling
alone r source None = Silent
alone r source (Some a) = Holds (record { reading = r; source = source; wrap = false; collect = false; answer = Some a })

-- a call without a step
abbrev pub call_ruled : DeclaredHeads → Bool → Called → Option (List Ty) → Ruling
call_ruled h maps c us = or_ruled (unit_called h c.found us) (λ n. alone (reading_of h maps c.units) c.source (unit_at h.units n).answer)

-- a call of a helper or a query behind a dot
abbrev pub unit_ruled : DeclaredHeads → Option Ty → Called → Option (List Ty) → Ruling
unit_ruled h None c us = Silent
unit_ruled h (Some t) c us = or_ruled (unit_called h c.found us) (λ n. unit_step (Some t) (reading_of h false c.units) (unit_at h.units n).answer)

-- a call of a mapping behind a dot or an arrow
abbrev pub map_ruled : DeclaredHeads → Bool → Option Ty → Called → Option (List Ty) → Ruling
map_ruled h arrow None c us = Silent
map_ruled h arrow (Some t) c us = or_ruled (unit_called h c.found us) (λ n. mapping_step arrow (Some t) (reading_of h true c.units) (unit_at h.units n).answer)

-- What a node does to a run. A part is pure that makes and changes nothing; it is plain that besides looks at no unit and no trace.

abbrev pub effect_of_sort : UnitSort → Effect
effect_of_sort sort.Query = PureOne
effect_of_sort _ = ImpureOne

abbrev pub effect_of_found : DeclaredHeads → FoundUnit → Effect
effect_of_found h (Chosen n) = effect_of_sort (unit_at h.units n).sort
effect_of_found h NoUnit = PlainOne
effect_of_found h Untyped = PlainOne
effect_of_found h Unclear = PlainOne

abbrev pub effect_of : DeclaredHeads → Called → Effect
effect_of h c = effect_of_found h c.found

abbrev pub not_pure : TypingContext → Effect → Option RefusalKind
not_pure x ImpureOne = if x.pure then Some refusal.NotPure else None
not_pure x PureOne = None
not_pure x PlainOne = None

abbrev pub not_plain : TypingContext → Effect → Option RefusalKind
not_plain x PlainOne = None
not_plain x PureOne = if x.plain then Some refusal.NotPlain else None
not_plain x ImpureOne = if x.plain then Some refusal.NotPlain else None
