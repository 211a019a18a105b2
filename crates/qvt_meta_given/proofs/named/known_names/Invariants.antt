use Rattle.std.proofs.Common.{◌≡◌, ℕ, suc, List, drop, map}
use Rattle.std.specs.Option.{option_or}
use Rattle.std.specs.Map.{lookup}
use Rattle.std.specs.Str.{bytes_eq}
use Rattle.qvt_metamodel.specs.declared.info.FeatureInfo.{FeatureInfo}
use Rattle.qvt_meta_names.proofs.Tables.{first_at}
use Rattle.qvt_meta_given.specs.Given.{known_names}
use Rattle.qvt_meta_given.proofs.named.known_names.Given as goal

abbrev pub invariant-loop-feature : goal.invariant-loop-feature
invariant-loop-feature l = record {
  last : l.last ≡ l.feature-index;
  table : (name : List ℕ) → option_or (lookup (bytes_eq name) l.table) (first_at (bytes_eq name) (suc l.feature-index) (drop l.feature-index (map (λ (f : FeatureInfo). f.name) l.features))) ≡ first_at (bytes_eq name) 0 (known_names l.features);
}
