use Rattle.std.proofs.Common.{◌≡◌, ◌∙◌, ◌==◌, List, ap, sym, arith, position, slice_index_or}
use Rattle.std.proofs.lemmas.Bool.{eq-eqb, eqb-true}
use Rattle.qvt_base.specs.declared.numbers.FeatureNo.{FeatureNo}
use Rattle.qvt_metamodel.specs.Metamodels.{Metamodels, features_of}
use Rattle.qvt_metamodel.proofs.Bools.{not_true}
use Rattle.qvt_meta_names.specs.Named.{number_at}
use Rattle.qvt_metas.proofs.FeaturePlaces.{as_many, no_place_past, no_place_named, place_is, place_of_another, placed, number_read}
use Rattle.qvt_metas.proofs.metas.Metas.place.Goals as goal

pub returns-then-named-len : goal.returns-then-named-len
returns-then-named-len c =
    sym (no_place_past _ c.args.class.0 c.args.feature.0 c.self.invariant.kept.well_formed (omega (arith, c.if-named-len.true, c.len.ensures, as_many _ _ _ c.self.invariant.numbered)))
    ∙ ap (λ (m : Metamodels). position (λ (f : FeatureNo). f.0 == c.args.feature.0) (features_of m c.args.class.0)) c.self.view_is

pub returns-in_default : goal.returns-in_default
returns-in_default c =
    let number : c.index-number.result.now ≡ number_at c.self.inside.numbers.items c.args.feature = number_read _ c.args.feature _ (omega (arith, c.if-named-len.false, c.len.ensures)) c.index-number.ensures in
    let list = c.at-features.ensures ∙ c.self.invariant.kept.features c.args.class.0 in
    let there = placed _ _ _ c.args.class.0 _ _ _ _ _ c.as_slice-numbers.ensures.value (c.self.invariant.kept.features c.args.class.0) number c.place_in.ensures c.in_default.is in
    sym (no_place_named _ c.args.class.0 c.args.feature _ there)
    ∙ ap (λ (m : Metamodels). position (λ (f : FeatureNo). f.0 == c.args.feature.0) (features_of m c.args.class.0)) c.self.view_is

pub returns-then-features-place : goal.returns-then-features-place
returns-then-features-place c =
    let number : c.index-number.result.now ≡ number_at c.self.inside.numbers.items c.args.feature = number_read _ c.args.feature _ (omega (arith, c.if-named-len.false, c.len.ensures)) c.index-number.ensures in
    let list = c.at-features.ensures ∙ c.self.invariant.kept.features c.args.class.0 in
    let there = placed _ _ _ c.args.class.0 _ _ _ _ _ c.as_slice-numbers.ensures.value (c.self.invariant.kept.features c.args.class.0) number c.place_in.ensures c.in-Some.is in
    sym (place_is _ c.args.class.0 c.args.feature _ c.in-Some.place there (ap (λ (fs : List FeatureNo). (slice_index_or fs c.in-Some.place (record { 0 = 0 })).0 == c.args.feature.0) (sym list) ∙ eq-eqb _ _ c.if-features-place.true))
    ∙ ap (λ (m : Metamodels). position (λ (f : FeatureNo). f.0 == c.args.feature.0) (features_of m c.args.class.0)) c.self.view_is

pub returns-else-features-place : goal.returns-else-features-place
returns-else-features-place c =
    let number : c.index-number.result.now ≡ number_at c.self.inside.numbers.items c.args.feature = number_read _ c.args.feature _ (omega (arith, c.if-named-len.false, c.len.ensures)) c.index-number.ensures in
    let list = c.at-features.ensures ∙ c.self.invariant.kept.features c.args.class.0 in
    let there = placed _ _ _ c.args.class.0 _ _ _ _ _ c.as_slice-numbers.ensures.value (c.self.invariant.kept.features c.args.class.0) number c.place_in.ensures c.in-Some.is in
    sym (place_of_another _ c.args.class.0 c.args.feature _ _ c.in-Some.place c.self.invariant.kept.well_formed c.self.invariant.numbered there (ap (λ (fs : List FeatureNo). (slice_index_or fs c.in-Some.place (record { 0 = 0 })).0 == c.args.feature.0) (sym list) ∙ not_true _ (λ h. c.if-features-place.false (eqb-true _ _ h))))
    ∙ ap (λ (m : Metamodels). position (λ (f : FeatureNo). f.0 == c.args.feature.0) (features_of m c.args.class.0)) c.self.view_is
