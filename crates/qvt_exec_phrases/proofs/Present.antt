-- The objects of a list.
use Rattle.std.proofs.Common.{◌≡◌, refl, ap, List, [], ◌∷◌, ◌++◌, append_assoc, Option, Some, None}
use Rattle.std.specs.Prelude.{option_map}
use Rattle.qvt_base.specs.declared.numbers.Oid.{Oid}
use Rattle.qvt_value.specs.declared.value.Value.{Obj}
use Rattle.qvt_run_rules.specs.Sources.{with_object}

pub one_object : (done : List Oid) (o : Oid) (r : Option (List Oid)) → option_map (λ os. (done ++ o ∷ []) ++ os) r ≡ option_map (λ os. done ++ os) (with_object (Obj o) r)
one_object done o (Some os) = ap Some (append_assoc done (o ∷ []) os)
one_object done o None = refl
