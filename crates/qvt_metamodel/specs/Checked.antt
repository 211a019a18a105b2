-- What the data of a metamodel that was read keeps.
use Rattle.std.specs.Prelude.{◌≡◌, ◌≢◌, [], Bool, ◌&&◌, None, IsTrue}
use Rattle.std.specs.List.{list_all}
use Rattle.std.specs.Str.{is_utf8}
use Rattle.qvt_metamodel.specs.declared.info.EnumInfo.{EnumInfo}
use Rattle.qvt_metamodel.specs.declared.declared.DeclaredFeature.{DeclaredFeature}
use Rattle.qvt_metamodel.specs.declared.declared.DeclaredClass.{DeclaredClass}
use Rattle.qvt_metamodel.specs.MetaData.{MetaData}
use Rattle.qvt_metamodel.specs.Checks.{same_name, unknown_type, inheritance_cycle, bad_bounds, bad_opposite, same_feature}

-- no check fails
pub record Passes (d : MetaData) : Type 0 where
  pub same_name : same_name d ≡ None
  pub unknown_type : unknown_type d ≡ None
  pub inheritance_cycle : inheritance_cycle d ≡ None
  pub bad_bounds : bad_bounds d ≡ None
  pub bad_opposite : bad_opposite d ≡ None
  pub same_feature : same_feature d ≡ None

abbrev pub has_text : DeclaredFeature → Bool
has_text f = is_utf8 f.name

abbrev pub has_texts : DeclaredClass → Bool
has_texts c = is_utf8 c.name && list_all has_text c.features

abbrev pub are_texts : EnumInfo → Bool
are_texts e = is_utf8 e.name && list_all is_utf8 e.literals

pub record IsChecked (d : MetaData) : Type 0 where
  pub passes : Passes d
  pub named : d.name ≢ []
  pub name : IsTrue (is_utf8 d.name)
  pub texts : IsTrue (list_all has_texts d.classes)
  pub enum_texts : IsTrue (list_all are_texts d.enums)
