-- Data that a model of a metamodel may be.
use Rattle.std.specs.Prelude.{◌≡◌, ℕ, ◌<◌, ◌≤◌, List, [], ◌∷◌, length, map, Bool, not, IsTrue, slice_index_or, FitsSigned, ⊤}
use Rattle.std.specs.Int.{w64}
use Rattle.std.specs.List.{AllByRecursion}
use Rattle.std.specs.Str.{bytes_eq, IsUtf8}
use Rattle.std.specs.Ordering.{nat_cmp}
use Rattle.std.specs.Cmp.Lexicographic.{slice_cmp}
use Rattle.std.specs.declared.cmp.Ordering.TheVariants.{Greater}
use Rattle.qvt_repeats.specs.Repeats.{repeats_by}
use Rattle.qvt_metamodel.specs.declared.info.TypeKind.{TypeKind}
use Rattle.qvt_metamodel.specs.declared.info.TypeKind.TheVariants.{Bool as BoolKind, Int as IntKind, Str as StrKind, Enum as EnumKind, Class as ClassKind}
use Rattle.qvt_metas.specs.Metamodels.{Metamodels, class_at, feature_at, shape_of, is_single, has_feature}
use Rattle.qvt_metas.specs.Descends.{descends}
use Rattle.qvt_metas.specs.Named.{enumeration_at}
use Rattle.qvt_json.specs.Leaves.{is_id}
use Rattle.qvt_model.specs.declared.data.Datum.{Datum}
use Rattle.qvt_model.specs.declared.data.Datum.TheVariants.{Bool as BoolDatum, Int, Str, Literal, Ref}
use Rattle.qvt_model.specs.declared.data.SlotData.{SlotData}
use Rattle.qvt_model.specs.declared.data.ObjectData.{ObjectData}

abbrev pub no_object : ObjectData
no_object = record { class = record { 0 = 0 }; id = []; slots = [] }

abbrev pub object_data_at : List ObjectData → ℕ → ObjectData
object_data_at os i = slice_index_or os i no_object

abbrev pub ids : List ObjectData → List (List ℕ)
ids os = map (λ o. o.id) os

-- no two are equal
abbrev pub none_repeats : List (List ℕ) → Bool
none_repeats xs = not (repeats_by bytes_eq xs)

-- an item of a type: an Integer fits 64 bits, a String is UTF-8, a literal is one of the enumeration, an object is there and its
-- class is the type or below it
abbrev pub IsItem : Metamodels → List ObjectData → TypeKind → Datum → Type 0
IsItem m os BoolKind (BoolDatum b) = ⊤
IsItem m os IntKind (Int z) = FitsSigned w64 z
IsItem m os StrKind (Str s) = IsUtf8 s
IsItem m os (EnumKind k e) (Literal l) = (l.metamodel ≡ k) × (l.enumeration ≡ e) × (l.literal < length (enumeration_at m k e).literals)
IsItem m os (ClassKind c) (Ref i) = (i < length os) × IsTrue (descends m (object_data_at os i).class.0 c.0)
IsItem m os _ _ = ⊥

-- what an item has by its type in the code: an Integer fits 64 bits, a String is UTF-8
abbrev pub IsPlainDatum : Datum → Type 0
IsPlainDatum (BoolDatum b) = ⊤
IsPlainDatum (Int z) = FitsSigned w64 z
IsPlainDatum (Str s) = IsUtf8 s
IsPlainDatum (Literal l) = ⊤
IsPlainDatum (Ref i) = ⊤

abbrev pub IsPlainSlot : SlotData → Type 0
IsPlainSlot s = AllByRecursion IsPlainDatum s.items

abbrev pub IsPlainObject : ObjectData → Type 0
IsPlainObject o = AllByRecursion IsPlainSlot o.slots

pub record IsSlot (m : Metamodels) (os : List ObjectData) (c : ℕ) (s : SlotData) : Type 0 where
  pub own : IsTrue (has_feature m c s.feature.0)
  pub some : 0 < length s.items
  pub items : AllByRecursion (IsItem m os (shape_of m s.feature.0).kind) s.items

-- the name of each slot comes after this one
abbrev pub ComeAfter : Metamodels → List ℕ → List SlotData → Type 0
ComeAfter m name [] = ⊤
ComeAfter m name (s ∷ ss) = (slice_cmp nat_cmp (feature_at m s.feature.0).name name ≡ Greater) × ComeAfter m name ss

-- slots in byte order of the names, none twice
abbrev pub AreInNameOrder : Metamodels → List SlotData → Type 0
AreInNameOrder m [] = ⊤
AreInNameOrder m (s ∷ ss) = ComeAfter m (feature_at m s.feature.0).name ss × AreInNameOrder m ss

pub record IsObjectIn (m : Metamodels) (k : ℕ) (os : List ObjectData) (o : ObjectData) : Type 0 where
  pub class : o.class.0 < length m.classes
  pub metamodel : (class_at m o.class.0).metamodel ≡ k
  pub slots : AllByRecursion (IsSlot m os o.class.0) o.slots
  pub order : AreInNameOrder m o.slots

-- the data of a model of metamodel k
pub record IsModel (m : Metamodels) (k : ℕ) (os : List ObjectData) : Type 0 where
  pub ids : IsTrue (none_repeats (ids os))
  pub objects : AllByRecursion (IsObjectIn m k os) os

-- a slot of upper bound 1 holds at most one item
pub record HoldsOne (m : Metamodels) (s : SlotData) : Type 0 where
  pub one : IsTrue (is_single m s.feature.0) → length s.items ≤ 1

-- data that a file can hold: ids are texts of their form, and no slot holds more than is written
pub record IsStorable (m : Metamodels) (os : List ObjectData) : Type 0 where
  pub texts : AllByRecursion (λ o. IsUtf8 o.id) os
  pub forms : AllByRecursion (λ o. IsTrue (is_id o.id)) os
  pub ones : AllByRecursion (λ o. AllByRecursion (HoldsOne m) o.slots) os
