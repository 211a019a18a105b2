use Rattle.std.proofs.Common.{◌∙◌, List, Some, refl, ap, sym, slice_index_or}
use Rattle.qvt_base.specs.declared.numbers.FeatureNo.{FeatureNo}
use Rattle.qvt_metamodel.specs.Metamodels.{Metamodels}
use Rattle.qvt_metamodel.specs.Named.{feature_named}
use Rattle.qvt_metas.proofs.FeaturePlaces.{no_name, no_feature, feature_at_place, placed}
use Rattle.qvt_metas.proofs.metas.Metas.feature.Goals as goal

pub returns-in_default : goal.returns-in_default
returns-in_default c =
    sym (no_name _ c.args.class.0 _ _ c.args.name.now c.self.invariant.kept.well_formed c.self.invariant.numbered (sym c.find.ensures ∙ c.in_default.is))
    ∙ ap (λ (m : Metamodels). feature_named m c.args.class.0 c.args.name.now) c.self.view_is

pub returns-in-Some-place_in : goal.returns-in-Some-place_in
returns-in-Some-place_in c =
    let list = c.at-features.ensures ∙ c.self.invariant.kept.features c.args.class.0 in
    let there = placed _ _ _ c.args.class.0 c.in-Some.number _ _ _ _ c.as_slice-numbers.ensures.value (c.self.invariant.kept.features c.args.class.0) refl c.place_in.ensures c.in-Some-place_in.is in
    ap (λ (fs : List FeatureNo). Some (slice_index_or fs c.in-Some-place_in.place (record { 0 = 0 }))) list
    ∙ sym (feature_at_place _ c.args.class.0 _ _ c.args.name.now c.in-Some.number c.in-Some-place_in.place c.self.invariant.kept.well_formed c.self.invariant.numbered (sym c.find.ensures ∙ c.in-Some.is) there)
    ∙ ap (λ (m : Metamodels). feature_named m c.args.class.0 c.args.name.now) c.self.view_is

pub returns-in-None : goal.returns-in-None
returns-in-None c =
    let list = c.at-features.ensures ∙ c.self.invariant.kept.features c.args.class.0 in
    let there = placed _ _ _ c.args.class.0 c.in-Some.number _ _ _ _ c.as_slice-numbers.ensures.value (c.self.invariant.kept.features c.args.class.0) refl c.place_in.ensures c.in-None.is in
    sym (no_feature _ c.args.class.0 _ _ c.args.name.now c.in-Some.number c.self.invariant.kept.well_formed c.self.invariant.numbered (sym c.find.ensures ∙ c.in-Some.is) there)
    ∙ ap (λ (m : Metamodels). feature_named m c.args.class.0 c.args.name.now) c.self.view_is
