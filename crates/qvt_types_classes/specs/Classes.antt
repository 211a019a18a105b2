-- The metamodels of a transformation: those that are given, Element, and the intermediate classes (QVT 1.3, 8.2.1.1).
use Rattle.std.specs.Prelude.{ℕ, ◌+◌, ◌-◌, ◌<◌, nat_lt, Bool, true, List, ◌++◌, length, map, slice_index_or, if◌then◌else◌}
use Rattle.std.specs.List.{flat_map, AllByRecursion}
use Rattle.qvt_base.specs.declared.numbers.ClassNo.{ClassNo}
use Rattle.qvt_metas.specs.Kept.{AreRanks}
use Rattle.qvt_metas.specs.Metamodels.{Metamodels}
use Rattle.qvt_metas.specs.Extended.{extended}
use Rattle.qvt_metamodel.specs.declared.given.ClassData.{ClassData}
use Rattle.qvt_metamodel.specs.declared.given.FeatureData.{FeatureData}
use Rattle.qvt_metamodel.specs.declared.info.ClassInfo.{ClassInfo}
use Rattle.qvt_metas.specs.Tables.{of_classes}
use Rattle.qvt_types_data.specs.declared.refusal.TypingRefusal.{TypingRefusal}
use Rattle.qvt_types_paths.specs.ModelTypes.{NamedTypes}
use Rattle.qvt_types_classes.specs.declared.declared.Property.{Property}
use Rattle.qvt_types_classes.specs.declared.declared.Declared.{Declared}
use Rattle.qvt_types_classes.specs.Written.{super_lists, cycle_flags, uncycled_from, cycles_told}
use Rattle.qvt_types_classes.specs.Inherited.{numbered_from, all_properties, property_lists, read_from, same_told_from}

-- the superclasses of classes are among these
abbrev pub HaveSupers : List Declared → Type 0
HaveSupers ds = AllByRecursion (λ d. AllByRecursion (λ s. s < length ds) d.supers) ds

-- classes by number have ranks above those of their superclasses
abbrev pub HaveRanks : List ClassInfo → Type 0
HaveRanks ks = (ranks : List ℕ) × AreRanks (of_classes ks) ranks

-- the classes as they are written, those that are above themselves without superclasses
unfoldable pub own_classes : List Declared → List Declared
own_classes ds = uncycled_from (cycle_flags (super_lists ds)) 0 ds

-- classes, none of which is above itself, as they are read
unfoldable pub read_classes : List Declared → List Declared
read_classes ds = read_from (all_properties ds) (property_lists (numbered_from 0 ds)) 0 ds

-- what is told of properties of one name
unfoldable pub all_same_told : List Declared → List TypingRefusal
all_same_told ds = same_told_from (all_properties ds) (property_lists (numbered_from 0 ds)) 0 ds

-- what is told of the classes by what stands above them
abbrev pub above_told : List Declared → List TypingRefusal
above_told ds = cycles_told (cycle_flags (super_lists ds)) 0 ds ++ all_same_told (own_classes ds)

abbrev pub feature_data : Property → FeatureData
feature_data p = record { name = p.name; shape = p.shape }

abbrev pub super_number : ℕ → ℕ → ClassNo
super_number element i = record { 0 = element + (1 + i) }

abbrev pub class_data : ℕ → Declared → ClassData
class_data element d = record { name = d.name; supers = map (super_number element) d.supers; features = map feature_data d.properties }

abbrev pub all_data : NamedTypes → List Declared → List ClassData
all_data t ds = map (class_data t.element) ds

-- the metamodels with Element and the intermediate classes
abbrev pub extended_by : Metamodels → NamedTypes → List Declared → Metamodels
extended_by m t ds = extended m (all_data t ds)

-- which of the properties of intermediate classes have a type, in the order of their numbers
abbrev pub typed_flags : List Declared → List Bool
typed_flags ds = flat_map (λ d. map (λ p. p.typed) d.properties) ds

-- whether the type of a feature is known, where those of intermediate classes have the numbers from `first` on
abbrev pub is_typed : ℕ → List Bool → ℕ → Bool
is_typed first flags f = if nat_lt f first then true else slice_index_or flags (f - first) true
