-- Two lists of metamodels as one: the numbers of the second go on from those of the first.
use Rattle.std.specs.Prelude.{◌+◌, ◌<◌, ◌^◌, List, ◌++◌, length, map, Option, Some, None, option_map}
use Rattle.std.specs.List.{AllByRecursion}
use Rattle.qvt_base.specs.declared.numbers.ClassNo.{ClassNo}
use Rattle.qvt_base.specs.declared.numbers.FeatureNo.{FeatureNo}
use Rattle.qvt_metamodel.specs.declared.info.TypeKind.{TypeKind}
use Rattle.qvt_metamodel.specs.declared.info.TypeKind.TheVariants.{Bool as BoolKind, Int, Str, Enum, Class}
use Rattle.qvt_metamodel.specs.declared.info.FeatureShape.{FeatureShape}
use Rattle.qvt_metamodel.specs.declared.info.ClassInfo.{ClassInfo}
use Rattle.qvt_metamodel.specs.declared.info.FeatureInfo.{FeatureInfo}
use Rattle.qvt_metamodel.specs.declared.begin.Begin.{Begin}
use Rattle.qvt_metamodel.specs.declared.row.Row.{Row}
use Rattle.qvt_metamodel.specs.Metamodels.{Metamodels}

abbrev pub class_on : Begin → ClassNo → ClassNo
class_on b c = record { 0 = b.class + c.0 }

abbrev pub feature_on : Begin → FeatureNo → FeatureNo
feature_on b f = record { 0 = b.feature + f.0 }

abbrev pub kind_on : Begin → TypeKind → TypeKind
kind_on b BoolKind = BoolKind
kind_on b Int = Int
kind_on b Str = Str
kind_on b (Enum k e) = Enum (b.metamodel + k) e
kind_on b (Class c) = Class (class_on b c)

abbrev pub shape_on : Begin → FeatureShape → FeatureShape
shape_on b s = record s { kind = kind_on b s.kind }

unfoldable pub class_info_on : Begin → ClassInfo → ClassInfo
class_info_on b k = record { metamodel = b.metamodel + k.metamodel; name = k.name; is_abstract = k.is_abstract; supers = map (class_on b) k.supers; own = map (feature_on b) k.own }

unfoldable pub feature_info_on : Begin → FeatureInfo → FeatureInfo
feature_info_on b f = record { owner = class_on b f.owner; name = f.name; shape = shape_on b f.shape; opposite = option_map (feature_on b) f.opposite }

abbrev pub begin_after : Metamodels → Begin
begin_after m = record { metamodel = length m.metamodels; class = length m.classes; feature = length m.features }

abbrev pub first_some : {X : Type 0} → Option X → Option X → Option X
first_some None o = o
first_some (Some x) o = Some x

unfoldable pub joined : Metamodels → Metamodels → Metamodels
joined m n = let b = begin_after m in record {
  metamodels = m.metamodels ++ n.metamodels;
  classes = m.classes ++ map (class_info_on b) n.classes;
  features = m.features ++ map (feature_info_on b) n.features;
  element = first_some m.element (option_map (class_on b) n.element);
}

abbrev pub row_on : Begin → Row → Row
row_on b r = record { start = b.class + r.start; skipped = r.skipped; words = r.words }

-- the numbers that go on still fit 32 bits
abbrev pub ClassesFit : Begin → List ClassNo → Type 0
ClassesFit b cs = AllByRecursion (λ c. b.class + c.0 < 2 ^ 32) cs

abbrev pub FeaturesFit : Begin → List FeatureNo → Type 0
FeaturesFit b fs = AllByRecursion (λ f. b.feature + f.0 < 2 ^ 32) fs

abbrev pub KindFits : Begin → TypeKind → Type 0
KindFits b BoolKind = Unit {0}
KindFits b Int = Unit {0}
KindFits b Str = Unit {0}
KindFits b (Enum k e) = b.metamodel + k < 2 ^ 32
KindFits b (Class c) = b.class + c.0 < 2 ^ 32

abbrev pub OppositeFits : Begin → Option FeatureNo → Type 0
OppositeFits b None = Unit {0}
OppositeFits b (Some f) = b.feature + f.0 < 2 ^ 32

pub record ClassFits (b : Begin) (k : ClassInfo) : Type 0 where
  pub metamodel : b.metamodel + k.metamodel < 2 ^ 32
  pub supers : ClassesFit b k.supers
  pub own : FeaturesFit b k.own

pub record FeatureFits (b : Begin) (f : FeatureInfo) : Type 0 where
  pub owner : b.class + f.owner.0 < 2 ^ 32
  pub kind : KindFits b f.shape.kind
  pub opposite : OppositeFits b f.opposite

-- the numbers of both still fit 32 bits
pub record FitTogether (m n : Metamodels) : Type 0 where
  pub metamodels : length m.metamodels + length n.metamodels < 2 ^ 32
  pub classes : length m.classes + length n.classes < 2 ^ 32
  pub features : length m.features + length n.features < 2 ^ 32
