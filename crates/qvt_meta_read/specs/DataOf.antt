-- The data of a JSON value that has the form of a metamodel: what is missing has its default.
use Rattle.std.specs.Prelude.{ℕ, List, Bool, true, false, Option, Some, None, unwrap_or, option_map, min, codes}
use Rattle.serde_json.specs.Data.{Data}
use Rattle.serde_json.specs.Find.{get}
use Rattle.qvt_json.specs.Json.{text_at, text_or, as_count, count_under, flag_at, items_or}
pub use Rattle.qvt_json.specs.Json.{map_items, text_of}
use Rattle.qvt_meta_read.specs.MetaForm.{most_bound}
use Rattle.qvt_metamodel.specs.declared.info.EnumInfo.{EnumInfo}
use Rattle.qvt_metamodel.specs.declared.declared.DeclaredFeature.{DeclaredFeature}
use Rattle.qvt_metamodel.specs.declared.declared.DeclaredClass.{DeclaredClass}
use Rattle.qvt_metamodel.specs.declared.declared.MetaData.{MetaData}

-- bounds are at most most_bound, as their form asks
abbrev pub bound : ℕ → ℕ
bound n = min n most_bound

abbrev pub flag_or : List ℕ → Bool → Data → Bool
flag_or key b d = unwrap_or (flag_at key d) b

-- the upper bound at the key: 1 where there is none, and none where it is no number
abbrev pub upper_of : Option Data → Option ℕ
upper_of None = Some 1
upper_of (Some d) = option_map bound (as_count d)

unfoldable pub feature_data : Data → DeclaredFeature
feature_data d = record {
  name = text_or (codes "name") d;
  kind = text_or (codes "type") d;
  lower = bound (unwrap_or (count_under (codes "lower") d) 0);
  upper = upper_of (get (codes "upper") d);
  ordered = flag_or (codes "ordered") false d;
  unique = flag_or (codes "unique") true d;
  containment = flag_or (codes "containment") false d;
  opposite = text_at (codes "opposite") d;
}

unfoldable pub class_data : Data → DeclaredClass
class_data d = record {
  name = text_or (codes "name") d;
  is_abstract = flag_or (codes "abstract") false d;
  supers = map_items text_of (items_or (codes "supers") d);
  features = map_items feature_data (items_or (codes "features") d);
}

unfoldable pub enum_data : Data → EnumInfo
enum_data d = record {
  name = text_or (codes "name") d;
  literals = map_items text_of (items_or (codes "literals") d);
}

unfoldable pub meta_data : Data → MetaData
meta_data d = record {
  name = text_or (codes "name") d;
  uri = text_at (codes "uri") d;
  enums = map_items enum_data (items_or (codes "enums") d);
  classes = map_items class_data (items_or (codes "classes") d);
}
