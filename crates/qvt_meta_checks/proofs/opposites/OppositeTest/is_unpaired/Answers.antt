use Rattle.std.proofs.Common.{◌≡◌, ◌∙◌, ◌&&◌, List, ap}
use Rattle.std.specs.List.{list_any}
use Rattle.qvt_metamodel.specs.declared.declared.DeclaredFeature.{DeclaredFeature}
use Rattle.qvt_metamodel.specs.Checks.{type_features}
use Rattle.qvt_meta_checks.specs.declared.ends.OppositeEnd.{OppositeEnd}
use Rattle.qvt_meta_checks.specs.Ends.{is_end, may_not_be_contained}
use Rattle.qvt_meta_checks.proofs.Paired.{wanted, unpaired}
use Rattle.qvt_meta_checks.proofs.opposites.OppositeTest.is_unpaired.Goals as goal

pub returns : goal.returns
returns c =
    let same : record { name = c.in_ok-copy.field-0; kind = c.in_ok-copy-2.field-0; opposite = c.in_ok-copy-3.field-0 } ≡ wanted c.args.class.now c.args.feature.now c.args.opposite.now =
    λ i. record { name = c.in_ok-copy.ensures i; kind = c.in_ok-copy-2.ensures i; opposite = c.in_ok-copy-3.ensures i } in
    let gs : List DeclaredFeature = type_features c.args.self.now.meta.now c.args.feature.now in
    c.is_bad.ensures
    ∙ unpaired c.args.self.now.meta.now c.args.class.now c.args.feature.now c.args.opposite.now _ _ _ c.requires
    (c.is_declared-declared.ensures ∙ ap (λ (e : OppositeEnd). list_any (is_end e) gs) same)
    (c.is_contained-contained.ensures ∙ ap (λ (e : OppositeEnd). may_not_be_contained c.args.feature.now && list_any (λ g. g.containment && is_end e g) gs) same)
    c.is_itself-itself.ensures
