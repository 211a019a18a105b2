-- What is made of values as made is as made.
use Rattle.std.specs.Prelude.{◌≡◌, ◌↔◌, List, All, IfSome}
use Rattle.qvt_base.specs.declared.numbers.Place.{Place}
use Rattle.qvt_value.specs.declared.value.Value.{Value}
use Rattle.qvt_value.specs.declared.value.Value.TheViews.{Coll}
use Rattle.qvt_value.specs.declared.value.Kind.{Kind}
use Rattle.qvt_value.specs.Make.{made}
use Rattle.qvt_ocl_words.specs.declared.op.Op.{Op}
use Rattle.qvt_ocl_words.specs.Operation.{operation}
use Rattle.qvt_ocl_made.specs.AsMade.{IsAsMade}

-- a collection is as made exactly where its list is made of itself and its items are as made
abbrev pub CollectionIsAsMade : Type 0
CollectionIsAsMade = (k : Kind) (xs : List Value) → IsAsMade (Coll k xs) ↔ ((made k xs ≡ xs) × All IsAsMade xs)

-- a collection that is made of them
abbrev pub MadeIsAsMade : Type 0
MadeIsAsMade = (k : Kind) (xs : List Value) → All IsAsMade xs → IsAsMade (Coll k (made k xs))

-- what an operation gives of them
abbrev pub AnswerIsAsMade : Type 0
AnswerIsAsMade = (op : Op) (at : Place) (v : Value) (vs : List Value) → IsAsMade v → All IsAsMade vs → IfSome (operation op at v vs) IsAsMade
