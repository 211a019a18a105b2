-- The objects that a resolve looks from (QVT 1.3, 8.1.10), one item after another.
use Rattle.std.specs.Prelude.{List, [], ◌∷◌, ◌++◌, Option, Some, None}
use Rattle.qvt_base.specs.declared.numbers.Oid.{Oid}
use Rattle.qvt_value.specs.declared.value.Value.{Value, Null, Obj}

-- the objects that were found, with those of the items; None where one is neither an object nor null
abbrev pub objects_with : List Oid → List Value → Option (List Oid)
objects_with done [] = Some done
objects_with done (Null ∷ vs) = objects_with done vs
objects_with done (Obj o ∷ vs) = objects_with (done ++ o ∷ []) vs
objects_with done (v ∷ vs) = None
