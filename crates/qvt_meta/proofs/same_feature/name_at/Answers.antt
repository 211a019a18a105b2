use Rattle.std.proofs.Common.{◌≡◌, ◌∙◌, ◌<◌, [], ap, get_or, length, subst, sym}
use Rattle.std.specs.Prelude.{IfOk}
use Rattle.std.proofs.lemmas.List.{get_or_read, get_or-map}
use Rattle.qvt_base.specs.declared.numbers.FeatureNo.{FeatureNo}
use Rattle.qvt_metas.specs.Metamodels.{nowhere_feature}
use Rattle.qvt_metamodel.specs.declared.info.FeatureInfo.{FeatureInfo}
use Rattle.qvt_meta.proofs.NameNumbers.{live_at}
use Rattle.qvt_meta.proofs.same_feature.name_at.Goals as goal

abbrev first : FeatureNo
first = record { 0 = 0 }

pub bounds-features-feature : goal.bounds-features-feature
bounds-features-feature c = live_at (length c.args.features.now) c.args.list.now c.args.place first c.requires.live c.requires.place

pub returns : goal.returns
returns c =
    let features = c.args.features.now in
    let list = c.args.list.now in
    let live : (get_or list c.args.place first).0 < length features = live_at (length features) list c.args.place first c.requires.live c.requires.place in
    subst (λ name. IfOk c.copy.result (λ x. x ≡ name))
    (ap (λ (f : FeatureInfo). f.name) (sym c.index-features-feature.is ∙ get_or_read features (get_or list c.args.place first).0 c.index-features-feature.result live c.index-features-feature.is nowhere_feature)
    ∙ sym (get_or-map (λ (f : FeatureNo). (get_or features f.0 nowhere_feature).name) list c.args.place first [] c.requires.place))
    c.copy.ensures
