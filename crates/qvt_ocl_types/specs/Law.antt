-- What has a type has a value of that type.
use Rattle.std.specs.Prelude.{◌≡◌, ℕ, ⊤, Bool, IsTrue, List, [], ◌∷◌, Some, IsSomeAnd}
use Rattle.qvt_base.specs.declared.numbers.Oid.{Oid}
use Rattle.qvt_base.specs.declared.numbers.Place.{Place}
use Rattle.qvt_value.specs.declared.value.LiteralRef.{LiteralRef}
use Rattle.qvt_value.specs.declared.value.Value.{Value}
use Rattle.qvt_ocl_words.specs.declared.op.Op.{Op}
use Rattle.qvt_ocl_words.specs.Operation.{operation}
use Rattle.qvt_types_data.specs.Term.{TyTerm}
use Rattle.qvt_ocl_types.specs.Fits.{Fits}
use Rattle.qvt_ocl_types.specs.Typing.{answer_type}

-- an object of a class is one of each class above it
pub record AreBelow (below : ℕ → ℕ → Bool) (objects : ℕ → Oid → Bool) : Type 0 where
  pub up : (c d : ℕ) (o : Oid) → IsTrue (below c d) → IsTrue (objects c o) → IsTrue (objects d o)

module _ (literals : ℕ → ℕ → LiteralRef → Bool) (objects : ℕ → Oid → Bool) where
  abbrev pub AllFit : List TyTerm → List Value → Type 0
  AllFit [] [] = ⊤
  AllFit (U ∷ Us) (v ∷ vs) = Fits literals objects U v × AllFit Us vs
  AllFit Us vs = ⊥

abbrev pub TypedIsSound : Type 0
TypedIsSound =
    (below : ℕ → ℕ → Bool) (literals : ℕ → ℕ → LiteralRef → Bool) (objects : ℕ → Oid → Bool) → AreBelow below objects →
    (op : Op) (T U : TyTerm) (Us : List TyTerm) → answer_type below op T Us ≡ Some U →
    (at : Place) (v : Value) (vs : List Value) → Fits literals objects T v → AllFit literals objects Us vs → IsSomeAnd (operation op at v vs) (Fits literals objects U)
