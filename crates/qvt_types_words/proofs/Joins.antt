-- A join of types is the join of their plain data.
use Rattle.std.proofs.Common.{◌≡◌, refl, Bool, true, false, Some, None, cond}
use Rattle.std.specs.Option.{option_map}
use Rattle.qvt_metas.specs.Metamodels.{Metamodels}
use Rattle.qvt_metas.specs.Descends.{descends}
use Rattle.qvt_types_data.specs.Term.{ty_view}
use Rattle.qvt_types_data.specs.declared.ty.Ty.{Ty}
use Rattle.qvt_types_words.specs.Types.{conforms, join}
use Rattle.qvt_ocl_types.specs.Types as types

chosen : (a b : Bool) (t u : Ty) → option_map ty_view (cond a (Some u) (cond b (Some t) None)) ≡ cond a (Some (ty_view u)) (cond b (Some (ty_view t)) None)
chosen true b t u = refl
chosen false true t u = refl
chosen false false t u = refl

pub seen_join : (m : Metamodels) (t u : Ty) → option_map ty_view (join m t u) ≡ types.join (descends m) (ty_view t) (ty_view u)
seen_join m t u = chosen (conforms m t u) (conforms m u t) t u
