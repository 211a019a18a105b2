use Rattle.std.proofs.Common.{◌∙◌, List, [], ap, arith, length, map, position, refl, slice_index_or, Some, sym, ℕ}
use Rattle.std.proofs.lemmas.List.{length-map}
use Rattle.qvt_base.specs.declared.numbers.FeatureNo.{FeatureNo}
use Rattle.qvt_metas.specs.Metamodels.{nowhere_feature}
use Rattle.qvt_metamodel.specs.declared.info.FeatureInfo.{FeatureInfo}
use Rattle.qvt_metamodel.specs.Lists.{all_lists}
use Rattle.qvt_meta_repeats.proofs.Names.{first_flagged, none_flagged}
use Rattle.qvt_meta.proofs.Made.{live_same, repeated_same}
use Rattle.qvt_meta.proofs.same_feature.repeated_feature.Goals as goal

abbrev name_in : List FeatureInfo → FeatureNo → List ℕ
name_in features f = (slice_index_or features f.0 nowhere_feature).name

pub returns-in_default : goal.returns-in_default
returns-in_default c =
    let class = c.args.class in
    let features = c.args.numbers.now.features.items in
    let list = slice_index_or (all_lists c.args.lists.now) class [] in
    sym (none_flagged (map (name_in features) list) (ap (position (λ b. b)) (sym (c.requires.repeats class)) ∙ sym c.first.ensures ∙ c.in_default.is))
    ∙ repeated_same c.args.meta.now c.args.numbers.now class features list c.requires.numbers refl (c.requires.lists class)

pub name_at-requires : goal.name_at-requires
name_at-requires c =
    let class = c.args.class in
    let features = c.args.numbers.now.features.items in
    let list = slice_index_or (all_lists c.args.lists.now) class [] in
    let found = first_flagged (map (name_in features) list) c.in-Some.place (ap (position (λ b. b)) (sym (c.requires.repeats class)) ∙ sym c.first.ensures ∙ c.in-Some.is) in
    record {
      place = omega (arith, found.0, length-map list (name_in features), ap length c.at.ensures);
      live = live_same c.args.meta.now c.args.numbers.now class _ _ c.requires.numbers c.as_slice-features.ensures.value (c.at.ensures ∙ c.requires.lists class);
    }

pub returns : goal.returns
returns c =
    let class = c.args.class in
    let features = c.args.numbers.now.features.items in
    let list = slice_index_or (all_lists c.args.lists.now) class [] in
    let found = first_flagged (map (name_in features) list) c.in-Some.place (ap (position (λ b. b)) (sym (c.requires.repeats class)) ∙ sym c.first.ensures ∙ c.in-Some.is) in
    ap Some (c.in_ok-name.ensures ∙ (λ t. slice_index_or (map (name_in (c.as_slice-features.ensures.value t)) (c.at.ensures t)) c.in-Some.place []))
    ∙ sym found.1
    ∙ repeated_same c.args.meta.now c.args.numbers.now class features list c.requires.numbers refl (c.requires.lists class)
