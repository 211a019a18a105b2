-- The room for a metamodel that is added.
use Rattle.std.proofs.Common.{◌≡◌, ◌<◌, ◌^◌, List, [], ◌∷◌, length, map, Option, Some, None, refl, arith, zero-add}
use Rattle.std.specs.Prelude.{option_map}
use Rattle.qvt_base.specs.declared.numbers.ClassNo.{ClassNo}
use Rattle.qvt_base.specs.declared.numbers.FeatureNo.{FeatureNo}
use Rattle.qvt_metamodel.specs.declared.info.TypeKind.{TypeKind}
use Rattle.qvt_metamodel.specs.declared.info.TypeKind.TheVariants.{Bool as BoolKind, Int, Str, Enum, Class}
use Rattle.qvt_metamodel.specs.declared.info.ClassInfo.{ClassInfo}
use Rattle.qvt_metamodel.specs.declared.info.FeatureInfo.{FeatureInfo}
use Rattle.qvt_metamodel.specs.Metamodels.{Metamodels}
use Rattle.qvt_metamodel.specs.declared.declared.MetaData.{MetaData}
use Rattle.qvt_metamodel.specs.MetaData.{enum_names}
use Rattle.qvt_metamodel.specs.Named.{metamodel_at}
use Rattle.qvt_metamodel.specs.Joined.{FitTogether, joined, class_on, feature_on, kind_on, class_info_on, feature_info_on}
use Rattle.qvt_metamodel.specs.Added.{numbered, added, HasRoom, first_begin, names_of, class_infos, feature_infos}
use Rattle.qvt_metamodel.proofs.Empty.{no_metamodels}
use Rattle.qvt_metas.proofs.JoinsKept.{first_none}
use Rattle.qvt_metamodel.proofs.Infos.{length-class_infos, length-feature_infos}

pub together : (m : Metamodels) (d : MetaData) → HasRoom m d → FitTogether m (numbered d)
unfolding numbered
together m d room = record {
  metamodels = room.metamodels;
  classes = omega (arith, room.classes, length-class_infos first_begin (names_of d.classes) 0 d.classes);
  features = omega (arith, room.features, length-feature_infos first_begin (enum_names d) d.classes 0 d.classes);
}

pub added_element : (m : Metamodels) (d : MetaData) → (added m d).element ≡ m.element
unfolding joined numbered
added_element m d = first_none m.element

pub room_apart : (m : Metamodels) (d : MetaData) → FitTogether m (numbered d) → length d.enums < 2 ^ 32 → HasRoom m d
unfolding numbered
room_apart m d room few = record {
  metamodels = room.metamodels;
  classes = omega (arith, room.classes, length-class_infos first_begin (names_of d.classes) 0 d.classes);
  features = omega (arith, room.features, length-feature_infos first_begin (enum_names d) d.classes 0 d.classes);
  enumerations = few;
}

pub first_enums : (d : MetaData) → (metamodel_at (numbered d) 0).enums ≡ d.enums
unfolding numbered
first_enums d = refl

-- the first metamodel that is added keeps its numbers
pub class_first : (k : ClassInfo) → class_info_on first_begin k ≡ k
unfolding class_info_on
class_first k = λ i. record { metamodel = zero-add k.metamodel i; name = k.name; is_abstract = k.is_abstract; supers = classes_first k.supers i; own = features_first k.own i }
  where
    classes_first : (cs : List ClassNo) → map (class_on first_begin) cs ≡ cs
    classes_first [] = refl
    classes_first (c ∷ cs) = λ i. record { 0 = zero-add c.0 i } ∷ classes_first cs i

    features_first : (fs : List FeatureNo) → map (feature_on first_begin) fs ≡ fs
    features_first [] = refl
    features_first (f ∷ fs) = λ i. record { 0 = zero-add f.0 i } ∷ features_first fs i

pub feature_first : (f : FeatureInfo) → feature_info_on first_begin f ≡ f
unfolding feature_info_on
feature_first f = λ i. record { owner = record { 0 = zero-add f.owner.0 i }; name = f.name; shape = record f.shape { kind = kind_first f.shape.kind i }; opposite = opposite_first f.opposite i }
  where
    kind_first : (k : TypeKind) → kind_on first_begin k ≡ k
    kind_first BoolKind = refl
    kind_first Int = refl
    kind_first Str = refl
    kind_first (Enum x e) = λ i. Enum (zero-add x i) e
    kind_first (Class c) = λ i. Class (record { 0 = zero-add c.0 i })

    opposite_first : (o : Option FeatureNo) → option_map (feature_on first_begin) o ≡ o
    opposite_first None = refl
    opposite_first (Some g) = λ i. Some (record { 0 = zero-add g.0 i })

pub added_first : (d : MetaData) → added no_metamodels d ≡ numbered d
unfolding joined numbered
added_first d = λ i. record {
  metamodels = record { name = d.name; uri = d.uri; enums = d.enums } ∷ [];
  classes = each_same (class_info_on first_begin) (class_infos first_begin (names_of d.classes) 0 d.classes) class_first i;
  features = each_same (feature_info_on first_begin) (feature_infos first_begin (enum_names d) d.classes 0 d.classes) feature_first i;
  element = None;
}
  where
    each_same : {X : Type 0} (g : X → X) (xs : List X) → ((x : X) → g x ≡ x) → map g xs ≡ xs
    each_same g [] same = refl
    each_same g (x ∷ xs) same = λ i. same x i ∷ each_same g xs same i
