-- The numbers that stand for the names of features, and the flags of features by these numbers.
use Rattle.std.proofs.Common.{◌≡◌, ◌∙◌, ℕ, ◌<◌, ◌==◌, List, [], ◌∷◌, length, map, get_or, Bool, true, false, cond, Some, None, Option, position, refl, ap, sym, subst}
use Rattle.std.specs.Prelude.{unwrap_or}
use Rattle.std.specs.List.{list_any, position_or_len, AllByRecursion}
use Rattle.std.specs.Map.{lookup}
use Rattle.std.specs.Str.{bytes_eq}
use Rattle.std.proofs.lemmas.Bool.{eq-eqb, eqb-true, lt-ltb}
use Rattle.std.proofs.lemmas.List.{get_or-map, length-map}
use Rattle.std.proofs.lemmas.Slice.Eq.{bytes_eq-Decides}
use Rattle.qvt_base.specs.declared.numbers.FeatureNo.{FeatureNo}
use Rattle.qvt_metamodel.specs.declared.info.FeatureInfo.{FeatureInfo}
use Rattle.qvt_metas.specs.Metamodels.{among_features, nowhere_feature}
use Rattle.qvt_metamodel.proofs.Bools.{clash, or_left, or_right}
use Rattle.qvt_metamodel.proofs.Lookups.{bytes_eq-refl}
use Rattle.qvt_metamodel.proofs.Positions.{any-passes, any-within, none-at}
use Rattle.qvt_meta_names.specs.Named.{number_at, number_in, numbers_of}
use Rattle.qvt_meta_repeats.specs.Flags.{name_flags, number_flags}
use Rattle.qvt_meta_repeats.proofs.Names.{flags_of_names}
use Rattle.qvt_meta.specs.Numbers.{StandForNames}

-- a test that passes at a place
any-at : {X : Type 0} (p : X → Bool) (xs : List X) (i : ℕ) (d : X) → i < length xs → p (get_or xs i d) ≡ true → list_any p xs ≡ true
any-at p xs i d l h = by (list_any p xs) refl
  where
    by : (b : Bool) → list_any p xs ≡ b → list_any p xs ≡ true
    by true e = e
    by false e = clash h (none-at p xs i d e l)

-- the features of a list are there where those of the whole list are

pub live_at : (n : ℕ) (list : List FeatureNo) (i : ℕ) (e : FeatureNo) → ((f : ℕ) → among_features f list ≡ true → f < n) → i < length list → (get_or list i e).0 < n
live_at n list i e live l =
    live (get_or list i e).0 (any-at (λ (g : FeatureNo). g.0 == (get_or list i e).0) list i e l (eq-eqb (get_or list i e).0 (get_or list i e).0 refl))

module _ (features : List FeatureInfo) where
  abbrev name : FeatureNo → List ℕ
  name f = (get_or features f.0 nowhere_feature).name

  module _ (table : List (List ℕ × ℕ)) (first : (name : List ℕ) → lookup (bytes_eq name) table ≡ position (λ f. bytes_eq name f.name) features) where
    number_is : (f : FeatureNo) → f.0 < length features → number_at (numbers_of table features) f ≡ number_in table (name f)
    number_is f l = get_or-map (λ (g : FeatureInfo). number_in table g.name) features f.0 nowhere_feature 0 l

    -- the feature with the number that stands for a name has that name
    has_name : (f : FeatureNo) → f.0 < length features → name f ≡ (get_or features (number_in table (name f)) nowhere_feature).name
    has_name f l = (bytes_eq-Decides (name f) (get_or features (number_in table (name f)) nowhere_feature).name).0
        (subst (λ i. is_same (get_or features i nowhere_feature) ≡ true) (sym place) (any-passes is_same features nowhere_feature there))
      where
        is_same : FeatureInfo → Bool
        is_same g = bytes_eq (name f) g.name

        there : list_any is_same features ≡ true
        there = any-at is_same features f.0 nowhere_feature l (bytes_eq-refl (name f))

        place : number_in table (name f) ≡ position_or_len is_same features
        place = ap (λ (o : Option ℕ). unwrap_or o 0) (first (name f)
            ∙ ap (λ b. cond b (Some (position_or_len is_same features)) None) (lt-ltb (position_or_len is_same features) (length features) (any-within is_same features there)))

    pub stand_for_names : StandForNames features (numbers_of table features)
    stand_for_names = record {
      each = length-map features (λ (g : FeatureInfo). number_in table g.name);
      same = λ f g l k. (
        λ e. has_name f l ∙ ap (λ i. (get_or features i nowhere_feature).name) (sym (number_is f l) ∙ e ∙ number_is g k) ∙ sym (has_name g k),
        λ e. number_is f l ∙ ap (number_in table) e ∙ sym (number_is g k),
      );
    }

  module _ (numbers : List ℕ) (stand : StandForNames features numbers) where
    -- a name is another's exactly where its number is
    same_test : (f g : FeatureNo) → f.0 < length features → g.0 < length features → bytes_eq (name f) (name g) ≡ (number_at numbers g == number_at numbers f)
    same_test f g l k = by (bytes_eq (name f) (name g)) (number_at numbers g == number_at numbers f) refl refl
      where
        by : (a b : Bool) → bytes_eq (name f) (name g) ≡ a → (number_at numbers g == number_at numbers f) ≡ b → bytes_eq (name f) (name g) ≡ (number_at numbers g == number_at numbers f)
        by true true x y = x ∙ sym y
        by true false x y = clash (eq-eqb (number_at numbers g) (number_at numbers f) ((stand.same g f k l).1 (sym ((bytes_eq-Decides (name f) (name g)).0 x)))) y
        by false true x y = clash ((bytes_eq-Decides (name f) (name g)).1 (sym ((stand.same g f k l).0 (eqb-true (number_at numbers g) (number_at numbers f) y)))) x
        by false false x y = x ∙ sym y

    -- the flags of features that are there, by the numbers of their names
    pub flags_are : (list : List FeatureNo) → ((f : ℕ) → among_features f list ≡ true → f < length features) → number_flags numbers list ≡ name_flags (map name list)
    flags_are list live = flags_of_names name numbers (λ f. f.0 < length features) same_test list (each list live)
      where
        each : (fs : List FeatureNo) → ((f : ℕ) → among_features f fs ≡ true → f < length features) → AllByRecursion (λ f. f.0 < length features) fs
        each [] there = tt
        each (f ∷ fs) there = (there f.0 (or_left (f.0 == f.0) (among_features f.0 fs) (eq-eqb f.0 f.0 refl)), each fs (λ g h. there g (or_right (f.0 == g) (among_features g fs) h)))
