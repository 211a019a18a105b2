-- The first object of an extent, and the first of its features, with fewer items than the lower bound (EMOF 12.4).
use Rattle.std.specs.Prelude.{ℕ, Bool, nat_lt, length, List, [], ◌∷◌, Option, Some, None, if◌then◌else◌}
use Rattle.qvt_base.specs.declared.numbers.FeatureNo.{FeatureNo}
use Rattle.qvt_base.specs.declared.numbers.Oid.{Oid}
use Rattle.qvt_json.specs.Steps.{or_next}
use Rattle.qvt_metas.specs.Metamodels.{shape_of, features_of}
use Rattle.qvt_store.specs.Contents.{Contents, class_of, slot_of, members_of}
use Rattle.qvt_conform.specs.declared.fault.LowFault.{LowFault}

abbrev pub is_low : Contents → ℕ → ℕ → Bool
is_low s x f = nat_lt (length (slot_of s x f)) (shape_of s.metas f).lower

abbrev pub low_feature : Contents → Oid → List FeatureNo → Option LowFault
low_feature s x [] = None
low_feature s x (f ∷ fs) = if is_low s x.0 f.0 then Some (record { object = x; feature = f }) else low_feature s x fs

abbrev pub low_object : Contents → List Oid → Option LowFault
low_object s [] = None
low_object s (x ∷ xs) = or_next (low_feature s x (features_of s.metas (class_of s x.0))) (low_object s xs)

abbrev pub low_of : Contents → ℕ → Option LowFault
low_of s e = low_object s (members_of s e)
