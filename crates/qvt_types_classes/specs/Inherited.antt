-- The properties of intermediate classes with those that they inherit (EMOF 12.4, inherited features), numbered from 0 over all
-- classes, and properties of one name.
use Rattle.std.specs.Prelude.{◌≡◌, ℕ, ◌+◌, ◌-◌, Bool, false, not, List, [], ◌∷◌, ◌++◌, length, map, take, drop, slice_index_or, is_some, if◌then◌else◌}
use Rattle.std.specs.List.{flat_map, range_with_len}
use Rattle.qvt_base.specs.declared.numbers.ClassNo.{ClassNo}
use Rattle.qvt_base.specs.declared.numbers.FeatureNo.{FeatureNo}
use Rattle.qvt_metas.specs.Metamodels.{features_of, nowhere_shape}
use Rattle.qvt_metas.specs.Added.{numbers_from}
use Rattle.qvt_metamodel.specs.Names.{is_among, repeated}
use Rattle.qvt_metamodel.specs.declared.info.ClassInfo.{ClassInfo}
use Rattle.qvt_metas.specs.Tables.{of_classes}
use Rattle.qvt_types_data.specs.declared.refusal.TypingRefusal.{TypingRefusal}
use Rattle.qvt_types_data.specs.declared.refusal.RefusalKind.TheVariants.{SameName}
use Rattle.qvt_types_paths.specs.Told.{told_if}
use Rattle.qvt_types_classes.specs.declared.declared.Property.{Property}
use Rattle.qvt_types_classes.specs.declared.declared.Declared.{Declared}

abbrev pub class_number : ℕ → ClassNo
class_number i = record { 0 = i }

-- the classes by number, whose properties have the numbers from f on
abbrev pub numbered_class : ℕ → Declared → ClassInfo
numbered_class f d = record { metamodel = 0; name = d.name; is_abstract = false; supers = map class_number d.supers; own = numbers_from f (length d.properties) }

abbrev pub numbered_from : ℕ → List Declared → List ClassInfo
numbered_from f [] = []
numbered_from f (d ∷ ds) = numbered_class f d ∷ numbered_from (f + length d.properties) ds

abbrev pub all_properties : List Declared → List Property
all_properties ds = flat_map (λ d. d.properties) ds

abbrev pub no_property : Property
no_property = record { name = []; shape = nowhere_shape; typed = false; place = record { line = 1; column = 1; offset = 0 } }

-- the numbers of the properties of each class, those that it inherits before its own
abbrev pub property_lists : List ClassInfo → List (List FeatureNo)
property_lists infos = map (features_of (of_classes infos)) (range_with_len 0 (length infos))

abbrev pub property_at : List Property → FeatureNo → Property
property_at all f = slice_index_or all f.0 no_property

-- the properties of the class at a place
abbrev pub properties_at : List Property → List (List FeatureNo) → ℕ → List Property
properties_at all lists i = map (property_at all) (slice_index_or lists i [])

-- the last properties of the list are the class's own
abbrev pub IsOwnLast : List Property → List FeatureNo → Declared → Type 0
IsOwnLast all list d = map (property_at all) (drop (length list - length d.properties) list) ≡ d.properties

abbrev pub names_of : List Property → List (List ℕ)
names_of ps = map (λ p. p.name) ps

-- no two of the properties have one name
abbrev pub are_apart : List Property → Bool
are_apart ps = not (is_some (repeated [] (names_of ps)))

-- how many of so many properties are inherited, where these are the class's own
abbrev pub inherited_count : List Property → List Property → ℕ
inherited_count ps own = length ps - length own

-- two properties that are inherited have one name
unfoldable pub inherits_twice : List Property → Declared → Bool
inherits_twice ps d = is_some (repeated [] (names_of (take (inherited_count ps d.properties) ps)))

-- each of the class's own properties whose name an earlier one or an inherited one has
abbrev pub own_told : List (List ℕ) → List Property → List TypingRefusal
own_told earlier [] = []
own_told earlier (p ∷ ps) = told_if (is_among p.name earlier) SameName p.place ++ own_told (earlier ++ p.name ∷ []) ps

unfoldable pub same_told : List Property → Declared → List TypingRefusal
same_told ps d = told_if (inherits_twice ps d) SameName d.place ++ own_told (names_of (take (inherited_count ps d.properties) ps)) d.properties

-- the first of each name
abbrev pub firsts : List (List ℕ) → List Property → List Property
firsts earlier [] = []
firsts earlier (p ∷ ps) = if is_among p.name earlier then firsts earlier ps else p ∷ firsts (earlier ++ p.name ∷ []) ps

-- the class as its name is read: of properties of one name the first. Where two of them are inherited it stands without
-- superclasses, and has what it inherits itself.
unfoldable pub read_class : List Property → Declared → Declared
read_class ps d =
    if inherits_twice ps d
    then record { name = d.name; supers = []; properties = firsts [] ps; place = d.place }
    else record { name = d.name; supers = d.supers; properties = drop (inherited_count ps d.properties) (firsts [] ps); place = d.place }

abbrev pub read_from : List Property → List (List FeatureNo) → ℕ → List Declared → List Declared
read_from all lists i [] = []
read_from all lists i (d ∷ ds) = read_class (properties_at all lists i) d ∷ read_from all lists (i + 1) ds

abbrev pub same_told_from : List Property → List (List FeatureNo) → ℕ → List Declared → List TypingRefusal
same_told_from all lists i [] = []
same_told_from all lists i (d ∷ ds) = same_told (properties_at all lists i) d ++ same_told_from all lists (i + 1) ds
