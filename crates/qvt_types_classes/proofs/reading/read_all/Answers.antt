use Rattle.std.proofs.Common.{◌≡◌, ◌∙◌, List, Bool, [], ap, position, subst, sym}
use Rattle.std.specs.Prelude.{slice_index_or}
use Rattle.qvt_base.specs.declared.numbers.FeatureNo.{FeatureNo}
use Rattle.qvt_metamodel.proofs.Infos.{map-at_all}
use Rattle.qvt_metamodel.specs.Lists.{all_lists}
use Rattle.qvt_meta_repeats.specs.Flags.{name_flags}
use Rattle.qvt_types_classes.specs.declared.declared.Declared.{Declared}
use Rattle.qvt_types_classes.specs.Inherited.{IsOwnLast}
use Rattle.qvt_types_classes.specs.Keys.{names_at}
use Rattle.qvt_types_classes.proofs.reading.read_all.Goals as goal

pub read_class-requires : goal.read_class-requires
read_class-requires c =
    let all = c.args.all.now in
    let place = c.loop-place.place in
    let lists = all_lists c.args.lists.now in
    let flags : slice_index_or c.in_ok-repeats.repeats place [] ≡ name_flags (names_at all c.at-list.result.now) =
    ap (λ (fs : List (List Bool)). slice_index_or fs place []) c.in_ok-repeats.ensures
    ∙ map-at_all (λ (list : List FeatureNo). name_flags (names_at all list)) lists place []
    ∙ ap (λ (list : List FeatureNo). name_flags (names_at all list)) (sym c.at-list.ensures) in
    record {
      own = subst (λ (list : List FeatureNo). IsOwnLast all list c.index-classes-place.result) (sym c.at-list.ensures)
          (subst (λ (d : Declared). IsOwnLast all (slice_index_or lists place []) d) (sym c.index-classes-place.is) (c.requires place _ c.loop-place-test.true));
      flags = c.flags-flags.ensures ∙ flags;
      first = c.first-first.ensures ∙ ap (position (λ b. b)) flags;
    }
