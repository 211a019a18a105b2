-- The values that fit a type. Null and what is invalid fit each.
use Rattle.std.specs.Prelude.{◌≡◌, ℕ, ⊤, Bool, false, IsTrue, List, [], ◌∷◌}
use Rattle.qvt_base.specs.declared.numbers.Oid.{Oid}
use Rattle.qvt_value.specs.declared.value.LiteralRef.{LiteralRef}
use Rattle.qvt_value.specs.declared.value.Value.{Value, Null, Bool as Truth, Int, Str, Enum, Obj, Coll', Invalid, items-the_row-Value}
use Rattle.qvt_value.specs.declared.value.Kind.{Kind}
use Rattle.qvt_value.specs.Make.{is_invalid}
use Rattle.qvt_types_data.specs.Term.{TyTerm, Void, Boolean, Integer, Text, Literals, Class, Collection}

abbrev pub Each : (Value → Type 0) → List Value → Type 0
Each P [] = ⊤
Each P (v ∷ vs) = P v × Each P vs

-- a value that fits and is not invalid
abbrev pub Sure : (Value → Type 0) → Value → Type 0
Sure P v = P v × (is_invalid v ≡ false)

abbrev pub IsNothing : Value → Type 0
IsNothing Null = ⊤
IsNothing (Invalid r p) = ⊤
IsNothing v = ⊥

abbrev pub IsTruth : Value → Type 0
IsTruth (Truth b) = ⊤
IsTruth Null = ⊤
IsTruth (Invalid r p) = ⊤
IsTruth v = ⊥

abbrev pub IsNumber : Value → Type 0
IsNumber (Int n) = ⊤
IsNumber Null = ⊤
IsNumber (Invalid r p) = ⊤
IsNumber v = ⊥

abbrev pub IsText : Value → Type 0
IsText (Str s) = ⊤
IsText Null = ⊤
IsText (Invalid r p) = ⊤
IsText v = ⊥

abbrev pub IsLiteral : (LiteralRef → Bool) → Value → Type 0
IsLiteral P (Enum l) = IsTrue (P l)
IsLiteral P Null = ⊤
IsLiteral P (Invalid r p) = ⊤
IsLiteral P v = ⊥

abbrev pub IsObject : (Oid → Bool) → Value → Type 0
IsObject P (Obj o) = IsTrue (P o)
IsObject P Null = ⊤
IsObject P (Invalid r p) = ⊤
IsObject P v = ⊥

abbrev pub IsCollection : Kind → (Value → Type 0) → Value → Type 0
IsCollection k P (Coll' l s r) = (l ≡ k) × Each (Sure P) (items-the_row-Value _ r)
IsCollection k P Null = ⊤
IsCollection k P (Invalid r p) = ⊤
IsCollection k P v = ⊥

-- the literals of an enumeration, and the live objects of a class
module _ (literals : ℕ → ℕ → LiteralRef → Bool) (objects : ℕ → Oid → Bool) where
  abbrev pub Fits : TyTerm → Value → Type 0
  Fits Void v = IsNothing v
  Fits Boolean v = IsTruth v
  Fits Integer v = IsNumber v
  Fits Text v = IsText v
  Fits (Literals m e) v = IsLiteral (literals m e) v
  Fits (Class c) v = IsObject (objects c) v
  Fits (Collection k T) v = IsCollection k (Fits T) v
