-- Features of a class no two of which have one name: none stands twice, and each is found by its name.
use Rattle.std.proofs.Common.{◌≡◌, ◌≢◌, ◌∙◌, ℕ, ◌<◌, List, [], length, map, get_or, Bool, true, false, Some, None, ap, sym, subst, arith, ◌==◌, find}
use Rattle.std.specs.Str.{bytes_eq}
use Rattle.std.proofs.lemmas.List.{length-map}
use Rattle.std.proofs.lemmas.Bool.{eqb-true}
use Rattle.std.specs.List.{position_or_len}
use Rattle.qvt_base.specs.declared.numbers.FeatureNo.{FeatureNo}
use Rattle.qvt_json.specs.Repeated.{repeated}
use Rattle.qvt_metamodel.specs.Metamodels.{Metamodels, feature_at, features_of, has_feature, among_features}
use Rattle.qvt_metamodel.specs.Named.{feature_named}
use Rattle.qvt_metamodel.proofs.Bools.{ap2, clash}
use Rattle.qvt_metamodel.proofs.Infos.{map-at}
use Rattle.qvt_metamodel.proofs.Positions.{any-within, any-passes}
use Rattle.qvt_metamodel.proofs.Lookups.{bytes_eq-refl, differ-before, find-first}

-- a feature that stands among others, by its place
pub record Placed (f : ℕ) (gs : List FeatureNo) : Type 0 where
  pub place : ℕ
  pub within : place < length gs
  pub is : (get_or gs place (record { 0 = 0 })).0 ≡ f

pub placed : (f : ℕ) (gs : List FeatureNo) → among_features f gs ≡ true → Placed f gs
placed f gs h = record {
  place = position_or_len (λ g. g.0 == f) gs;
  within = any-within (λ (g : FeatureNo). g.0 == f) gs h;
  is = eqb-true _ f (any-passes (λ (g : FeatureNo). g.0 == f) gs (record { 0 = 0 }) h);
}

module _ (w : Metamodels) where
  abbrev r : FeatureNo
  r = record { 0 = 0 }

  abbrev named : FeatureNo → List ℕ
  named g = (feature_at w g.0).name

  module _ (c : ℕ) (fresh : repeated [] (map named (features_of w c)) ≡ None) where
    differ_at : (i j : ℕ) → i < length (features_of w c) → j < i → bytes_eq (named (get_or (features_of w c) i r)) (named (get_or (features_of w c) j r)) ≡ false
    differ_at i j l h =
        ap2 bytes_eq (sym (map-at named (features_of w c) i r [] l)) (sym (map-at named (features_of w c) j r [] (omega (arith, l, h))))
        ∙ differ-before [] (map named (features_of w c)) i j fresh (omega (arith, l, length-map (features_of w c) named)) h

    pub distinct : (i j : ℕ) → i < j → j < length (features_of w c) → (get_or (features_of w c) i r).0 ≢ (get_or (features_of w c) j r).0
    distinct i j h l e =
        clash (subst (λ n. bytes_eq (feature_at w (get_or (features_of w c) j r).0).name (feature_at w n).name ≡ true) (sym e) (bytes_eq-refl (feature_at w (get_or (features_of w c) j r).0).name)) (differ_at j i l h)

    pub found_feature : (f : ℕ) → has_feature w c f ≡ true → feature_named w c (feature_at w f).name ≡ Some (record { 0 = f })
    found_feature f h =
        let p : Placed f (features_of w c) = placed f (features_of w c) h in
        find-first (λ (g : FeatureNo). bytes_eq (feature_at w f).name (feature_at w g.0).name) (features_of w c) p.place r p.within
        (subst (λ n. bytes_eq (feature_at w n).name (feature_at w (get_or (features_of w c) p.place r).0).name ≡ true) p.is (bytes_eq-refl (feature_at w (get_or (features_of w c) p.place r).0).name))
        (λ j before. subst (λ n. bytes_eq (feature_at w n).name (feature_at w (get_or (features_of w c) j r).0).name ≡ false) p.is (differ_at p.place j p.within before))
        ∙ ap (λ (x : ℕ). Some (record { 0 = x })) p.is
