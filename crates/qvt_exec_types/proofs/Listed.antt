-- The types of arguments, told one after the other.
use Rattle.std.proofs.Common.{◌≡◌, refl, sym, ap, List, [], ◌∷◌, ◌++◌, Option, Some, None}
use Rattle.std.proofs.lemmas.List.{append_assoc, append-nil}
use Rattle.qvt_types_data.specs.declared.ty.Ty.{Ty}
use Rattle.qvt_meaning.specs.Nodes.{one_more}

-- types that were told, and those of the rest, if each has one
abbrev pub with_before : List Ty → Option (List Ty) → Option (List Ty)
with_before ts None = None
with_before ts (Some us) = Some (ts ++ us)

pub none_before : (o : Option (List Ty)) → with_before [] o ≡ o
none_before None = refl
none_before (Some us) = refl

pub one_before : (ts : List Ty) (t : Ty) (o : Option (List Ty)) → with_before ts (one_more (Some t) o) ≡ with_before (ts ++ t ∷ []) o
one_before ts t None = refl
one_before ts t (Some us) = ap Some (sym (append_assoc ts (t ∷ []) us))

pub all_before : (ts : List Ty) → with_before ts (Some []) ≡ Some ts
all_before ts = ap Some (append-nil ts)
