-- Values of the types of features: Boolean, Integer, String, the literals of an enumeration, the objects of a class.
use Rattle.std.specs.Prelude.{ℕ, Bool, true, false, ◌==◌, ◌&&◌, nat_lt, ◌≤◌, List, length, IsTrue, IsFalse, FitsSigned}
use Rattle.std.specs.Int.{w64}
use Rattle.std.specs.List.{list_all}
use Rattle.std.specs.Str.{IsUtf8}
use Rattle.qvt_value.specs.declared.value.Value.{Value}
use Rattle.qvt_value.specs.declared.value.Value.TheVariants.{Bool as BoolValue, Int as IntValue, Str as StrValue, Enum as EnumValue}
use Rattle.qvt_metamodel.specs.declared.info.TypeKind.{TypeKind}
use Rattle.qvt_metamodel.specs.declared.info.TypeKind.TheVariants.{Bool as BoolKind, Int as IntKind, Str as StrKind, Enum as EnumKind, Class as ClassKind}
use Rattle.qvt_metas.specs.Metamodels.{Metamodels, shape_of, is_single, has_feature}
use Rattle.qvt_metas.specs.Named.{enumeration_at}
use Rattle.qvt_metas.specs.Descends.{descends, is_class_type}
use Rattle.qvt_slots.specs.Slots.{is_object_with}
use Rattle.qvt_slots.specs.Contents.{Contents, is_live, is_writable, class_of, slot_of}

abbrev pub is_bool : Value → Bool
is_bool (BoolValue b) = true
is_bool _ = false

abbrev pub is_int : Value → Bool
is_int (IntValue n) = true
is_int _ = false

abbrev pub is_text_value : Value → Bool
is_text_value (StrValue t) = true
is_text_value _ = false

-- a literal that is there, of enumeration e of metamodel k
abbrev pub is_literal : Metamodels → ℕ → ℕ → Value → Bool
is_literal m k e (EnumValue l) = (l.metamodel == k) && (l.enumeration == e) && nat_lt l.literal (length (enumeration_at m k e).literals)
is_literal m k e _ = false

-- an object that is there, and whose class conforms to class d
abbrev pub is_instance : Contents → ℕ → Value → Bool
is_instance s d v = is_object_with (λ y. is_live s y && descends s.metas (class_of s y) d) v

abbrev pub is_of_kind : Contents → TypeKind → Value → Bool
is_of_kind s BoolKind v = is_bool v
is_of_kind s IntKind v = is_int v
is_of_kind s StrKind v = is_text_value v
is_of_kind s (EnumKind k e) v = is_literal s.metas k e v
is_of_kind s (ClassKind c) v = is_instance s c.0 v

abbrev pub is_of_type : Contents → ℕ → Value → Bool
is_of_type s f v = is_of_kind s (shape_of s.metas f).kind v

-- every item of a slot is there and of the slot's type
pub record AreTyped (s : Contents) : Type 0 where
  pub types : (x f : ℕ) → IsTrue (list_all (is_of_type s f) (slot_of s x f))

-- what a value has by the types that the code gives it: an Integer fits 64 bits, a String is UTF-8
abbrev pub HasCodeType : Value → Type 0
HasCodeType (IntValue n) = FitsSigned w64 n
HasCodeType (StrValue t) = IsUtf8 t
HasCodeType _ = Unit {0}

-- slot (o, p) is there, and the values are of its type
pub record IsAssignable (s : Contents) (o p : ℕ) (vs : List Value) : Type 0 where
  pub live : IsTrue (is_live s o)
  pub feature : IsTrue (has_feature s.metas (class_of s o) p)
  pub types : IsTrue (list_all (is_of_type s p) vs)

-- the slot of a single attribute gets one value at most, in an extent that can be changed
pub record IsAttributeChange (s : Contents) (o p : ℕ) (vs : List Value) : Type 0 where
  pub attribute : IsFalse (is_class_type (shape_of s.metas p).kind)
  pub single : IsTrue (is_single s.metas p)
  pub few : length vs ≤ 1
  pub writable : IsTrue (is_writable s o)
