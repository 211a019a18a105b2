-- The intermediate classes as they are read can stand above the metamodels.
use Rattle.std.proofs.Common.{◌≡◌, ◌∙◌, ℕ, zero, suc, ◌+◌, ◌<◌, List, [], ◌∷◌, length, map, get_or, drop, Bool, true, false, not, refl, ap, sym, subst, arith, ◌==◌}
use Rattle.std.specs.Prelude.{nat_lt, if◌then◌else◌}
use Rattle.std.specs.List.{AllByRecursion, list_all}
use Rattle.std.proofs.lemmas.Bool.{eq-eqb, lt-ltb}
use Rattle.std.proofs.lemmas.List.{length-map}
use Rattle.qvt_base.specs.declared.numbers.FeatureNo.{FeatureNo}
use Rattle.qvt_metas.specs.Extended.{AreGiven}
use Rattle.qvt_metas.specs.Metamodels.{Metamodels}
use Rattle.qvt_metas.specs.Named.{metamodel_at}
use Rattle.qvt_metamodel.specs.declared.given.ClassData.{ClassData}
use Rattle.qvt_metamodel.specs.declared.info.TypeKind.{TypeKind}
use Rattle.qvt_metamodel.specs.declared.info.TypeKind.TheVariants as kind
use Rattle.qvt_metamodel.proofs.Bools.{and_both}
use Rattle.qvt_tree_types.specs.Module.{UnitTerm}
use Rattle.qvt_types_paths.specs.ModelTypes.{NamedTypes, class_names}
use Rattle.qvt_meta_given.specs.Given.{AreSound, are_loose, has_given_supers, has_live_kind, has_live_kinds, has_loose_features, is_given_number, is_live_kind, is_loose}
use Rattle.qvt_meta_given.proofs.Sound.{given_of}
use Rattle.qvt_types_classes.specs.declared.declared.Property.{Property}
use Rattle.qvt_types_classes.specs.declared.declared.Declared.{Declared}
use Rattle.qvt_types_classes.specs.Written.{all_declared, cycle_flags, super_lists, uncycled_from}
use Rattle.qvt_types_classes.specs.Inherited.{all_properties, firsts, inherited_count, inherits_twice, no_property, numbered_from, properties_at, property_at, property_lists, read_class, read_from}
use Rattle.qvt_types_classes.specs.Classes.{HaveRanks, HaveSupers, all_data, class_data, feature_data, own_classes, read_classes, super_number}
use Rattle.qvt_types_classes.proofs.Once.{all_append, all_drop, firsts_all}
use Rattle.qvt_types_classes.proofs.Cut.{own_acyclic, own_count, own_supers}
use Rattle.qvt_types_classes.proofs.Ancestry.{all_read, read_count}
use Rattle.qvt_types_classes.proofs.FineShapes.{IsFine, IsThere, as_many, have_supers, written_fine}
use Rattle.qvt_types_classes.proofs.Stands.{sound}

all_test : {X Y : Type 0} (p : Y → Bool) (g : X → Y) (P : X → Type 0) (xs : List X) → ((x : X) → P x → p (g x) ≡ true) → AllByRecursion P xs → list_all p (map g xs) ≡ true
all_test p g P [] f all = refl
all_test p g P (x ∷ xs) f all = and_both (p (g x)) (list_all p (map g xs)) (f x all.0) (all_test p g P xs f all.1)

all_or : {X : Type 0} (P : X → Type 0) (xs : List X) (i : ℕ) (d : X) → P d → AllByRecursion P xs → P (get_or xs i d)
all_or P [] i d past all = past
all_or P (x ∷ xs) zero d past all = all.0
all_or P (x ∷ xs) (suc i) d past all = all_or P xs i d past all.1

-- what holds of all superclasses, or of all properties, does so of the classes as they are read
read_supers : (P : ℕ → Type 0) (all : List Property) (lists : List (List FeatureNo)) (k : ℕ) (ds : List Declared) → AllByRecursion (λ d. AllByRecursion P d.supers) ds → AllByRecursion (λ d. AllByRecursion P d.supers) (read_from all lists k ds)
unfolding read_class
read_supers P all lists k [] h = tt
read_supers P all lists k (d ∷ ds) h = (by (properties_at all lists k) (inherits_twice (properties_at all lists k) d), read_supers P all lists (k + 1) ds h.1)
  where
    by : (ps : List Property) (t : Bool)
        → AllByRecursion P (if t then (let cut : Declared = record { name = d.name; supers = []; properties = firsts [] ps; place = d.place } in cut) else record { name = d.name; supers = d.supers; properties = drop (inherited_count ps d.properties) (firsts [] ps); place = d.place }).supers
    by ps true = tt
    by ps false = h.0

read_properties : (P : Property → Type 0) (all : List Property) → P no_property → AllByRecursion P all → (lists : List (List FeatureNo)) (k : ℕ) (ds : List Declared) → AllByRecursion (λ d. AllByRecursion P d.properties) (read_from all lists k ds)
unfolding read_class
read_properties P all past h lists k [] = tt
read_properties P all past h lists k (d ∷ ds) = (by (properties_at all lists k) (each (get_or lists k [])) (inherits_twice (properties_at all lists k) d), read_properties P all past h lists (k + 1) ds)
  where
    each : (fs : List FeatureNo) → AllByRecursion P (map (property_at all) fs)
    each [] = tt
    each (f ∷ fs) = (all_or P all f.0 no_property past h, each fs)

    by : (ps : List Property) → AllByRecursion P ps → (t : Bool)
        → AllByRecursion P (if t then (let cut : Declared = record { name = d.name; supers = []; properties = firsts [] ps; place = d.place } in cut) else record { name = d.name; supers = d.supers; properties = drop (inherited_count ps d.properties) (firsts [] ps); place = d.place }).properties
    by ps a true = firsts_all P [] ps a
    by ps a false = all_drop P (inherited_count ps d.properties) (firsts [] ps) (firsts_all P [] ps a)

uncycled_properties : (P : Property → Type 0) (flags : List Bool) (i : ℕ) (ds : List Declared) → AllByRecursion (λ d. AllByRecursion P d.properties) ds → AllByRecursion (λ d. AllByRecursion P d.properties) (uncycled_from flags i ds)
uncycled_properties P flags i [] h = tt
uncycled_properties P flags i (d ∷ ds) h = (h.0, uncycled_properties P flags (i + 1) ds h.1)

own_properties : (P : Property → Type 0) (ds : List Declared) → AllByRecursion (λ d. AllByRecursion P d.properties) ds → AllByRecursion (λ d. AllByRecursion P d.properties) (own_classes ds)
unfolding own_classes
own_properties P ds h = uncycled_properties P (cycle_flags (super_lists ds)) 0 ds h

properties_all : (P : Property → Type 0) (ds : List Declared) → AllByRecursion (λ d. AllByRecursion P d.properties) ds → AllByRecursion P (all_properties ds)
properties_all P [] h = tt
properties_all P (d ∷ ds) h = all_append P d.properties (all_properties ds) h.0 (properties_all P ds h.1)

-- classes without cycles among them, and the same as they are read
module _ (m : Metamodels) (t : NamedTypes) (ds : List Declared) (element : t.element ≡ length m.classes) (names : length t.classes ≡ length ds) (supers : HaveSupers ds) (fine : AllByRecursion (λ d. AllByRecursion (λ p. IsFine m t p.shape) d.properties) ds) (ranked : HaveRanks (numbered_from 0 (own_classes ds))) where
  abbrev own : List Declared
  own = own_classes ds

  abbrev rs : List Declared
  rs = read_from (all_properties own) (property_lists (numbered_from 0 own)) 0 own

  abbrev B : ℕ
  B = length m.classes

  abbrev cs : List ClassData
  cs = map (class_data B) rs

  rs_count : length rs ≡ length ds
  rs_count = read_count (all_properties own) (property_lists (numbered_from 0 own)) 0 own ∙ own_count ds

  cs_count : length cs ≡ length ds
  cs_count = length-map rs (class_data B) ∙ rs_count

  rs_supers : AllByRecursion (λ d. AllByRecursion (λ s. s < length ds) d.supers) rs
  rs_supers = read_supers (λ s. s < length ds) (all_properties own) (property_lists (numbered_from 0 own)) 0 own (own_supers (λ s. s < length ds) ds supers)

  rs_fine : AllByRecursion (λ d. AllByRecursion (λ p. IsFine m t p.shape) d.properties) rs
  rs_fine = read_properties (λ p. IsFine m t p.shape) (all_properties own) (refl, refl, tt) (properties_all (λ p. IsFine m t p.shape) own (own_properties (λ p. IsFine m t p.shape) ds fine)) (property_lists (numbered_from 0 own)) 0 own

  live_supers : list_all (has_given_supers m cs) cs ≡ true
  live_supers = all_test (has_given_supers m cs) (class_data B) (λ d. AllByRecursion (λ s. s < length ds) d.supers) rs (λ d all.
      all_test (is_given_number m cs) (super_number B) (λ s. s < length ds) d.supers (λ s l.
      and_both (nat_lt B (B + (1 + s))) (nat_lt (B + (1 + s)) (B + (1 + length cs))) (lt-ltb B (B + (1 + s)) (omega arith)) (lt-ltb (B + (1 + s)) (B + (1 + length cs)) (omega (arith, l, cs_count)))) all) rs_supers

  live_kind : (k : TypeKind) → IsThere m t k → is_live_kind m cs k ≡ true
  live_kind kind.Bool a = refl
  live_kind kind.Int a = refl
  live_kind kind.Str a = refl
  live_kind (kind.Enum k e) a = lt-ltb e (length (metamodel_at m k).enums) a
  live_kind (kind.Class c) a = lt-ltb c.0 (B + (1 + length cs)) (omega (arith, a, element, names, cs_count))

  live_kinds : list_all (has_live_kinds m cs) cs ≡ true
  live_kinds = all_test (has_live_kinds m cs) (class_data B) (λ d. AllByRecursion (λ p. IsFine m t p.shape) d.properties) rs (λ d all.
      all_test (has_live_kind m cs) feature_data (λ p. IsFine m t p.shape) d.properties (λ p f. live_kind p.shape.kind f.2) all) rs_fine

  loose : are_loose cs ≡ true
  loose = all_test has_loose_features (class_data B) (λ d. AllByRecursion (λ p. IsFine m t p.shape) d.properties) rs (λ d all.
      all_test is_loose feature_data (λ p. IsFine m t p.shape) d.properties (λ p f. and_both (not p.shape.containment) (p.shape.lower == 0) (ap not f.0) (eq-eqb p.shape.lower 0 f.1)) all) rs_fine

  are_sound : AreSound m cs
  are_sound = sound own rs (own_acyclic ds) ranked.0 ranked.1 (λ i l. all_read own i l) (omega (arith, rs_count, own_count ds)) m

  given_at_all : AreGiven m cs
  given_at_all = given_of m cs (and_both (list_all (has_given_supers m cs) cs) (list_all (has_live_kinds m cs) cs) live_supers live_kinds) loose are_sound

  pub given_read : AreGiven m (all_data t (read_classes (own_classes ds)))
  unfolding read_classes
  given_read = subst (λ e. AreGiven m (map (class_data e) rs)) (sym element) given_at_all

-- where the names are those of the units, over these metamodels
pub stands : (m : Metamodels) (t : NamedTypes) (us : List UnitTerm) → t.element ≡ length m.classes → t.classes ≡ class_names us → HaveRanks (numbered_from 0 (own_classes (all_declared m t us)))
    → AreGiven m (all_data t (read_classes (own_classes (all_declared m t us))))
stands m t us element classes ranked = given_read m t (all_declared m t us) element (as_many m t element us classes) (have_supers m t element us classes) (written_fine m t element us) ranked
