-- The nearest source decides a name first.
use Rattle.std.proofs.Common.{◌≡◌, ◌∙◌, ℕ, ◌+◌, ◌-◌, ◌<◌, List, [], ◌∷◌, ◌++◌, length, get_or, take, Bool, true, false, Option, Some, None, refl, sym, ap}
use Rattle.std.specs.Prelude.{if◌then◌else◌, unwrap_or, option_map}
use Rattle.std.proofs.lemmas.List.{take_more}
use Rattle.qvt_base.specs.declared.numbers.FeatureNo.{FeatureNo}
use Rattle.qvt_metamodel.specs.Metamodels.{Metamodels}
use Rattle.qvt_types_data.specs.declared.ruling.Ruling.{Ruling}
use Rattle.qvt_types_data.specs.declared.ty.Ty.{Ty, out-Ty}
use Rattle.qvt_types_data.specs.declared.variable.Variable.{Variable}
use Rattle.qvt_types_names.specs.Names.{is_implicit, feature_in, property_of, or_property, on_source, by_source, by_sources}
use Rattle.qvt_types_names.specs.Sources.{typed_source, source_ruled}

module _ (m : Metamodels) (first : ℕ) (typed : List Bool) (name : List ℕ) where
  property_is : (source : List ℕ) (o : Option FeatureNo) (r : Ruling) → or_property m first typed source o r ≡ unwrap_or (option_map (property_of m first typed source) o) r
  property_is source None r = refl
  property_is source (Some f) r = refl

  typed_is : (source : List ℕ) (t : Option Ty) (r : Ruling) → on_source m first typed name source t r ≡ unwrap_or (typed_source m first typed name source t) r
  typed_is source None r = refl
  typed_is source (Some t) r = property_is source (feature_in m name (out-Ty t)) r

  source_is : (v : Variable) (r : Ruling) → by_source m first typed name v r ≡ unwrap_or (source_ruled m first typed name v) r
  unfolding by_source
  source_is v r = by (is_implicit v.sort)
    where
      by : (b : Bool) → (if b then on_source m first typed name v.name v.ty r else r) ≡ unwrap_or (if b then typed_source m first typed name v.name v.ty else None) r
      by true = typed_is v.name v.ty r
      by false = refl

  last_source : (vs : List Variable) (v : Variable) (r : Ruling) → by_sources m first typed name r (vs ++ v ∷ []) ≡ by_source m first typed name v (by_sources m first typed name r vs)
  last_source [] v r = refl
  last_source (w ∷ vs) v r = last_source vs v (by_source m first typed name w r)

  one_more : (vs : List Variable) (i : ℕ) (v : Variable) (r : Ruling) → i < length vs → v ≡ get_or vs i v
      → by_sources m first typed name r (take (i + 1) vs) ≡ unwrap_or (source_ruled m first typed name v) (by_sources m first typed name r (take i vs))
  one_more vs i v r l at =
      ap (by_sources m first typed name r) (take_more vs i v l ∙ ap (λ x. take i vs ++ x ∷ []) (sym at))
      ∙ last_source (take i vs) v r
      ∙ source_is v (by_sources m first typed name r (take i vs))

  -- a source that decides
  pub decided : (vs : List Variable) (n i : ℕ) (v : Variable) (r x all : Ruling) → i + 1 ≡ n → i < length vs → v ≡ get_or vs i v
      → by_sources m first typed name r (take n vs) ≡ all → Some x ≡ source_ruled m first typed name v → x ≡ all
  decided vs n i v r x all is l at before ruled =
      ap (λ o. unwrap_or o (by_sources m first typed name r (take i vs))) ruled
      ∙ sym (one_more vs i v r l at) ∙ ap (λ k. by_sources m first typed name r (take k vs)) is ∙ before

  -- a source that does not
  pub left : (vs : List Variable) (n i : ℕ) (v : Variable) (r all : Ruling) → i + 1 ≡ n → i < length vs → v ≡ get_or vs i v
      → by_sources m first typed name r (take n vs) ≡ all → None ≡ source_ruled m first typed name v → by_sources m first typed name r (take i vs) ≡ all
  left vs n i v r all is l at before ruled =
      ap (λ o. unwrap_or o (by_sources m first typed name r (take i vs))) ruled
      ∙ sym (one_more vs i v r l at) ∙ ap (λ k. by_sources m first typed name r (take k vs)) is ∙ before
