-- The objects that a resolve looks from, found one item after another.
use Rattle.std.proofs.Common.{◌≡◌, ◌∙◌, refl, sym, ap, List, [], ◌∷◌, ◌++◌, append_assoc, append-nil}
use Rattle.std.specs.Prelude.{Option, Some, None}
use Rattle.qvt_base.specs.declared.numbers.Oid.{Oid}
use Rattle.qvt_value.specs.declared.value.Value.{Value, Null, Obj}
use Rattle.qvt_run_rules.specs.Sources.{all_objects, present_items, with_object}
use Rattle.qvt_exec_resolves.specs.Sources.{objects_with}

-- behind those that were found
abbrev behind : List Oid → Option (List Oid) → Option (List Oid)
behind done None = None
behind done (Some os) = Some (done ++ os)

one_more : (done : List Oid) (o : Oid) (r : Option (List Oid)) → behind (done ++ o ∷ []) r ≡ behind done (with_object (Obj o) r)
one_more done o None = refl
one_more done o (Some os) = ap Some (append_assoc done (o ∷ []) os)

found : (done : List Oid) (vs : List Value) → objects_with done vs ≡ behind done (all_objects (present_items vs))
found done [] = ap Some (sym (append-nil done))
found done (Null ∷ vs) = found done vs
found done (Obj o ∷ vs) = found (done ++ o ∷ []) vs ∙ one_more done o (all_objects (present_items vs))
found done (v ∷ vs) = refl

whole : (r : Option (List Oid)) → behind [] r ≡ r
whole None = refl
whole (Some os) = refl

pub all_found : (vs : List Value) → objects_with [] vs ≡ all_objects (present_items vs)
all_found vs = found [] vs ∙ whole (all_objects (present_items vs))
