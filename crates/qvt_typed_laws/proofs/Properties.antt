-- The properties of intermediate classes have types where nothing is told of the classes.
use Rattle.std.proofs.Common.{◌≡◌, refl, ℕ, zero, suc, ◌+◌, ◌-◌, ◌<◌, ◌≤◌, Bool, true, false, List, [], ◌∷◌, ◌++◌, map, drop, length, arith}
use Rattle.std.proofs.lemmas.List.{length-append}
use Rattle.qvt_base.specs.declared.numbers.Place.{Place}
use Rattle.std.specs.Prelude.{if◌then◌else◌, slice_index_or, nat_lt, Result, Ok, Err}
use Rattle.std.specs.List.{flat_map, range_with_len}
use Rattle.qvt_base.specs.declared.numbers.FeatureNo.{FeatureNo}
use Rattle.qvt_metas.specs.Added.{numbers_from}
use Rattle.qvt_metas.specs.Metamodels.{Metamodels, among_features, each_once, features_in, features_of, class_at, nowhere_class}
use Rattle.qvt_metamodel.specs.Names.{is_among}
use Rattle.qvt_metamodel.specs.declared.info.ClassInfo.{ClassInfo}
use Rattle.qvt_metamodel.specs.declared.info.FeatureShape.{FeatureShape}
use Rattle.qvt_metas.specs.Tables.{of_classes}
use Rattle.qvt_tree_types.specs.Module.{TypedName, ClassTerm, UnitTerm, ClassOf, MainOf, HelperOf, ConstructorOf, MappingOf}
use Rattle.qvt_types_data.specs.declared.refusal.TypingRefusal.{TypingRefusal}
use Rattle.qvt_types_data.specs.declared.refusal.RefusalKind.TheVariants.{SameName}
use Rattle.qvt_types_paths.specs.ModelTypes.{NamedTypes, class_name}
use Rattle.qvt_types_paths.specs.Told.{told_if}
use Rattle.qvt_types_classes.specs.Classes.{own_classes, read_classes, typed_flags, is_typed}
use Rattle.qvt_types_classes.specs.Inherited as inherited
use Rattle.qvt_types_classes.specs.Written as written
use Rattle.qvt_types_classes.specs.declared.declared.Declared.{Declared}
use Rattle.qvt_types_classes.specs.declared.declared.Property.{Property}
use Rattle.qvt_typed_laws.proofs.Every.{Every, none, also, first, others, every_more, every_at, every_map, every_flat}

-- what is told in two parts is told in neither where nothing is
pub nothing_first : {X : Type 0} (xs ys : List X) → xs ++ ys ≡ [] → xs ≡ []
nothing_first [] ys e = refl
nothing_first (x ∷ xs) ys e = absurd (cc)

pub nothing_last : {X : Type 0} (xs ys : List X) → xs ++ ys ≡ [] → ys ≡ []
nothing_last [] ys e = e
nothing_last (x ∷ xs) ys e = absurd (cc)

abbrev pub TypedProperty : Property → Type 0
TypedProperty p = p.typed ≡ true

abbrev pub TypedClass : Declared → Type 0
TypedClass d = Every TypedProperty d.properties

-- As they are written.

property_typed : (name : List ℕ) (at : Place) (r : Result FeatureShape TypingRefusal) → written.property_told r ≡ [] → TypedProperty (written.property name at r)
property_typed name at (Ok s) e = refl
property_typed name at (Err told) e = absurd (cc)

properties_typed : (m : Metamodels) (t : NamedTypes) (fs : List TypedName) → flat_map (λ f. written.property_told (written.property_shape m t f)) fs ≡ [] → Every TypedProperty (map (written.property_of m t) fs)
properties_typed m t [] e = none
properties_typed m t (f ∷ fs) e = also (property_typed f.name f.place (written.property_shape m t f) (nothing_first (written.property_told (written.property_shape m t f)) _ e)) (properties_typed m t fs (nothing_last (written.property_told (written.property_shape m t f)) _ e))

class_typed : (m : Metamodels) (t : NamedTypes) (earlier : List (List ℕ)) (c : ClassTerm) → written.class_told m t earlier c ≡ [] → TypedClass (written.declared m t c)
unfolding written.class_told written.declared
class_typed m t earlier c e = properties_typed m t c.features (nothing_last (told_if (is_among c.name earlier) SameName c.place ++ flat_map (written.super_told m t) c.supers) _ e)

pub declared_typed : (m : Metamodels) (t : NamedTypes) (earlier : List (List ℕ)) (us : List UnitTerm) → written.classes_told m t earlier us ≡ [] → Every TypedClass (written.all_declared m t us)
declared_typed m t earlier [] e = none
declared_typed m t earlier (ClassOf c ∷ us) e = also (class_typed m t earlier c (nothing_first (written.class_told m t earlier c) _ e)) (declared_typed m t (earlier ++ class_name (ClassOf c)) us (nothing_last (written.class_told m t earlier c) _ e))
declared_typed m t earlier (MainOf body at ∷ us) e = declared_typed m t (earlier ++ []) us e
declared_typed m t earlier (HelperOf h ∷ us) e = declared_typed m t (earlier ++ []) us e
declared_typed m t earlier (ConstructorOf h ∷ us) e = declared_typed m t (earlier ++ []) us e
declared_typed m t earlier (MappingOf u ∷ us) e = declared_typed m t (earlier ++ []) us e

uncycled_typed : (flags : List Bool) (i : ℕ) (ds : List Declared) → Every TypedClass ds → Every TypedClass (written.uncycled_from flags i ds)
uncycled_typed flags i [] h = none
uncycled_typed flags i (d ∷ ds) h = also (first h) (uncycled_typed flags (i + 1) ds (others h))

-- By number.

abbrev pub Below : ℕ → FeatureNo → Type 0
Below n g = g.0 < n

numbers_below : (n f k : ℕ) → f + k ≤ n → Every (Below n) (numbers_from f k)
numbers_below n f zero h = none
numbers_below n f (suc k) h = also (omega (arith, h)) (numbers_below n (f + 1) k (omega (arith, h)))

abbrev pub OwnBelow : ℕ → ClassInfo → Type 0
OwnBelow n k = Every (Below n) k.own

count_more : (d : Declared) (ds : List Declared) → length (inherited.all_properties (d ∷ ds)) ≡ length d.properties + length (inherited.all_properties ds)
count_more d ds = length-append d.properties (inherited.all_properties ds)

classes_below : (n f : ℕ) (ds : List Declared) → f + length (inherited.all_properties ds) ≤ n → Every (OwnBelow n) (inherited.numbered_from f ds)
classes_below n f [] h = none
classes_below n f (d ∷ ds) h = also (numbers_below n f (length d.properties) (omega (arith, h, count_more d ds))) (classes_below n (f + length d.properties) ds (omega (arith, h, count_more d ds)))

once_below : (n : ℕ) (seen gs : List FeatureNo) → Every (Below n) gs → Every (Below n) (each_once seen gs)
once_below n seen [] h = none
once_below n seen (g ∷ gs) h = by (among_features g.0 seen) (once_below n seen gs (others h)) (once_below n (seen ++ g ∷ []) gs (others h))
  where
    by : (b : Bool) → Every (Below n) (each_once seen gs) → Every (Below n) (each_once (seen ++ g ∷ []) gs) → Every (Below n) (if b then each_once seen gs else g ∷ each_once (seen ++ g ∷ []) gs)
    by true k l = k
    by false k l = also (first h) l

features_below : (n k : ℕ) (m : Metamodels) (c : ℕ) → Every (OwnBelow n) m.classes → Every (Below n) (features_in k m c)
features_below n zero m c h = none
features_below n (suc k) m c h =
    every_more (Below n) (each_once [] (flat_map (λ s. features_in k m s.0) (class_at m c).supers)) (class_at m c).own
    (once_below n [] _ (every_flat (Below n) (λ s. features_in k m s.0) (λ s. features_below n k m s.0 h) (class_at m c).supers))
    (every_at (OwnBelow n) m.classes c nowhere_class h none)

lists_below : (n : ℕ) (ks : List ClassInfo) → Every (OwnBelow n) ks → Every (Every (Below n)) (inherited.property_lists ks)
unfolding features_of
lists_below n ks h = every_map (Every (Below n)) (features_of (of_classes ks)) (λ c. features_below n (length ks) (of_classes ks) c h) (range_with_len 0 (length ks))

-- As they are read.

properties_at_typed : (all : List Property) (gs : List FeatureNo) → Every TypedProperty all → Every (Below (length all)) gs → Every TypedProperty (map (inherited.property_at all) gs)
properties_at_typed all [] h k = none
properties_at_typed all (g ∷ gs) h k = also (within all g.0 h (first k)) (properties_at_typed all gs h (others k))
  where
    within : (all : List Property) (i : ℕ) → Every TypedProperty all → i < length all → TypedProperty (slice_index_or all i inherited.no_property)
    within [] i h l = absurd (omega (arith, l))
    within (p ∷ all) zero h l = first h
    within (p ∷ all) (suc i) h l = within all i (others h) (omega (arith, l))

firsts_typed : (earlier : List (List ℕ)) (ps : List Property) → Every TypedProperty ps → Every TypedProperty (inherited.firsts earlier ps)
firsts_typed earlier [] h = none
firsts_typed earlier (p ∷ ps) h = by (is_among p.name earlier) (firsts_typed earlier ps (others h)) (firsts_typed (earlier ++ p.name ∷ []) ps (others h))
  where
    by : (b : Bool) → Every TypedProperty (inherited.firsts earlier ps) → Every TypedProperty (inherited.firsts (earlier ++ p.name ∷ []) ps) → Every TypedProperty (if b then inherited.firsts earlier ps else p ∷ inherited.firsts (earlier ++ p.name ∷ []) ps)
    by true k l = k
    by false k l = also (first h) l

after_typed : (n : ℕ) (ps : List Property) → Every TypedProperty ps → Every TypedProperty (drop n ps)
after_typed zero ps h = h
after_typed (suc n) [] h = none
after_typed (suc n) (p ∷ ps) h = after_typed n ps (others h)

read_typed : (ps : List Property) (d : Declared) → Every TypedProperty ps → TypedClass (inherited.read_class ps d)
unfolding inherited.read_class
read_typed ps d h = by (inherited.inherits_twice ps d)
  where
    by : (b : Bool) → TypedClass (if b then record { name = d.name; supers = []; properties = inherited.firsts [] ps; place = d.place }
        else record { name = d.name; supers = d.supers; properties = drop (inherited.inherited_count ps d.properties) (inherited.firsts [] ps); place = d.place })
    by true = firsts_typed [] ps h
    by false = after_typed (inherited.inherited_count ps d.properties) (inherited.firsts [] ps) (firsts_typed [] ps h)

all_read_typed : (all : List Property) (lists : List (List FeatureNo)) (i : ℕ) (ds : List Declared) → Every TypedProperty all → Every (Every (Below (length all))) lists → Every TypedClass (inherited.read_from all lists i ds)
all_read_typed all lists i [] h k = none
all_read_typed all lists i (d ∷ ds) h k =
    also (read_typed (inherited.properties_at all lists i) d (properties_at_typed all (slice_index_or lists i []) h (every_at (Every (Below (length all))) lists i [] k none)))
    (all_read_typed all lists (i + 1) ds h k)

every_property : (ds : List Declared) → Every TypedClass ds → Every TypedProperty (inherited.all_properties ds)
every_property [] h = none
every_property (d ∷ ds) h = every_more TypedProperty d.properties (inherited.all_properties ds) (first h) (every_property ds (others h))

classes_read_typed : (ds : List Declared) → Every TypedClass ds → Every TypedClass (read_classes ds)
unfolding read_classes
classes_read_typed ds h = all_read_typed (inherited.all_properties ds) (inherited.property_lists (inherited.numbered_from 0 ds)) 0 ds (every_property ds h)
    (lists_below (length (inherited.all_properties ds)) (inherited.numbered_from 0 ds) (classes_below (length (inherited.all_properties ds)) 0 ds (omega arith)))

own_typed : (ds : List Declared) → Every TypedClass ds → Every TypedClass (own_classes ds)
unfolding own_classes
own_typed ds h = uncycled_typed (written.cycle_flags (written.super_lists ds)) 0 ds h

abbrev pub IsSet : Bool → Type 0
IsSet b = b ≡ true

property_flags : (ps : List Property) → Every TypedProperty ps → Every IsSet (map (λ (p : Property). p.typed) ps)
property_flags [] h = none
property_flags (p ∷ ps) h = also (first h) (property_flags ps (others h))

flags_set : (ds : List Declared) → Every TypedClass ds → Every IsSet (typed_flags ds)
flags_set [] h = none
flags_set (d ∷ ds) h = every_more IsSet (map (λ (p : Property). p.typed) d.properties) (typed_flags ds) (property_flags d.properties (first h)) (flags_set ds (others h))

is_typed_by : (from : ℕ) (flags : List Bool) (f : ℕ) → Every IsSet flags → is_typed from flags f ≡ true
is_typed_by from flags f h = by (nat_lt f from)
  where
    by : (b : Bool) → (if b then true else slice_index_or flags (f - from) true) ≡ true
    by true = refl
    by false = every_at IsSet flags (f - from) true h refl

pub all_typed : (m : Metamodels) (t : NamedTypes) (from : ℕ) (us : List UnitTerm) → written.classes_told m t [] us ≡ [] → (f : ℕ) → is_typed from (typed_flags (read_classes (own_classes (written.all_declared m t us)))) f ≡ true
all_typed m t from us e f = is_typed_by from _ f (flags_set (read_classes (own_classes (written.all_declared m t us))) (classes_read_typed (own_classes (written.all_declared m t us)) (own_typed (written.all_declared m t us) (declared_typed m t [] us e))))
