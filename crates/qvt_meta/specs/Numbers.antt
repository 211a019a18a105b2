-- The numbered parts of a metamodel that is read.
use Rattle.std.specs.Prelude.{◌≡◌, ◌↔◌, ◌<◌, nat_le, Bool, List, ℕ, [], ◌∷◌, length, slice_index_or, IsTrue, None}
use Rattle.std.specs.List.{list_all}
use Rattle.qvt_base.specs.declared.numbers.FeatureNo.{FeatureNo}
use Rattle.qvt_metamodel.specs.declared.info.FeatureInfo.{FeatureInfo}
use Rattle.qvt_metamodel.specs.declared.info.EnumInfo.{EnumInfo}
use Rattle.qvt_meta.specs.declared.adding.Numbers.{Numbers}
use Rattle.qvt_metamodel.specs.declared.declared.MetaData.{MetaData}
use Rattle.qvt_metamodel.specs.MetaData.{enum_names}
use Rattle.qvt_metas.specs.Metamodels.{nowhere_feature}
use Rattle.qvt_meta_names.specs.Named.{number_at}
use Rattle.qvt_metas.specs.Added.{first_begin, names_of, class_infos, feature_infos, HasRoom}

-- the numbers of its literals fit 32 bits
abbrev pub has_few_literals : EnumInfo → Bool
has_few_literals e = nat_le (length e.literals) 4294967295

-- the numbered parts of the metamodel, whose numbers fit 32 bits
pub record AreNumbers (d : MetaData) (n : Numbers) : Type 0 where
  pub metamodels : n.metamodels.items ≡ record { name = d.name; uri = d.uri; enums = d.enums } ∷ []
  pub classes : n.classes.items ≡ class_infos first_begin (names_of d.classes) 0 d.classes
  pub features : n.features.items ≡ feature_infos first_begin (enum_names d) d.classes 0 d.classes
  pub room : HasRoom (record { metamodels = []; classes = []; features = []; element = None }) d
  pub literals : IsTrue (list_all has_few_literals d.enums)

-- a number for each feature: two features have the same exactly where they have the same name
pub record StandForNames (features : List FeatureInfo) (numbers : List ℕ) : Type 0 where
  pub each : length numbers ≡ length features
  pub same : (f g : FeatureNo) → f.0 < length features → g.0 < length features
      → (number_at numbers f ≡ number_at numbers g) ↔ ((slice_index_or features f.0 nowhere_feature).name ≡ (slice_index_or features g.0 nowhere_feature).name)
