-- Units that take the same and answer objects of classes of which all are above one class.
use Rattle.std.specs.Prelude.{ℕ, ◌&&◌, Bool, false, List, [], ◌∷◌, length, nat_lt, Option, Some, None}
use Rattle.std.specs.List.{list_all}
use Rattle.qvt_metas.specs.Metamodels.{Metamodels}
use Rattle.qvt_metas.specs.Descends.{descends}
use Rattle.qvt_types_data.specs.Term.{TyTerm, Class, ty_view}
use Rattle.qvt_types_data.specs.declared.ty.Ty.{Ty}
use Rattle.qvt_types_groups.specs.declared.signature.Signature.{Signature}
use Rattle.qvt_types_groups.specs.Numbers.{unit_at}
use Rattle.qvt_types_above.specs.Covers.{covers_at}
use Rattle.qvt_types_above.specs.Shapes.{same_sort, same_types}

-- objects of the class or of one below it
abbrev pub is_class_below : Metamodels → TyTerm → ℕ → Bool
is_class_below m (Class c) e = descends m c e
is_class_below m T e = false

abbrev pub answers_below : Metamodels → Option Ty → ℕ → Bool
answers_below m None e = false
answers_below m (Some T) e = is_class_below m (ty_view T) e

-- of the class or of one above it
abbrev pub is_class_above : Metamodels → TyTerm → ℕ → Bool
is_class_above m (Class c) e = descends m e c
is_class_above m T e = false

abbrev pub answers_above : Metamodels → Option Ty → ℕ → Bool
answers_above m None e = false
answers_above m (Some T) e = is_class_above m (ty_view T) e

-- the second unit takes what the first does, and answers objects of the class or of one above it
abbrev pub is_like : Metamodels → Signature → Signature → ℕ → Bool
is_like m v w e = same_sort v.sort w.sort && (same_types v.params w.params && answers_above m w.answer e)

abbrev pub is_like_at : Metamodels → List Signature → Signature → ℕ → ℕ → Bool
is_like_at m us v e n = nat_lt n (length us) && is_like m v (unit_at us n) e

-- all of the list do
abbrev pub are_bounded : Metamodels → List Signature → List ℕ → ℕ → Bool
are_bounded m us [] e = false
are_bounded m us (k ∷ ks) e = nat_lt k (length us) && list_all (is_like_at m us (unit_at us k) e) (k ∷ ks)

-- the unit asks all that the first of the list asks, and answers objects of the class or of one below it
abbrev pub asks_bounded : Metamodels → List Signature → ℕ → List ℕ → ℕ → Bool
asks_bounded m us n [] e = false
asks_bounded m us n (k ∷ ks) e = covers_at m us n k && (nat_lt n (length us) && answers_below m (unit_at us n).answer e)
