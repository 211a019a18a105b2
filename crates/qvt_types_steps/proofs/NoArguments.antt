-- Where no argument is left, the rest conform.
use Rattle.std.proofs.Common.{◌≡◌, refl, true, List, [], ◌∷◌, Option}
use Rattle.qvt_types_words.specs.Metamodels.{Metamodels}
use Rattle.qvt_types_data.specs.declared.ty.Ty.{Ty}
use Rattle.qvt_types_steps.specs.UnitCalls.{arguments_conform}

pub none_left : (m : Metamodels) (ps : List (Option Ty)) → arguments_conform m ps [] ≡ true
none_left m [] = refl
none_left m (p ∷ ps) = refl
