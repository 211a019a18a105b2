use Rattle.std.proofs.Common.{◌∙◌, [], ap, arith, length, refl, slice_index_or, subst}
use Rattle.qvt_metamodel.proofs.Infos.{map-at_all}
use Rattle.qvt_metamodel.specs.Lists.{all_lists}
use Rattle.qvt_meta_repeats.specs.Flags.{number_flags}
use Rattle.qvt_meta.specs.Numbers.{StandForNames}
use Rattle.qvt_meta.proofs.Made.{few_features, live_same}
use Rattle.qvt_meta.proofs.NameNumbers.{flags_are}
use Rattle.qvt_meta.proofs.same_feature.name_repeats.Goals as goal

pub numbers_of_names-requires : goal.numbers_of_names-requires
numbers_of_names-requires c = omega (arith, ap length c.as_slice.ensures.value, few_features c.args.meta.now c.args.numbers.now c.requires.numbers)

pub returns : goal.returns
returns c = λ class.
    let lists = all_lists c.args.lists.now in
    let features = c.args.numbers.now.features.items in
    let numbers = c.in_ok-name_numbers.name_numbers.items in
    let stand : StandForNames features numbers = subst (λ fs. StandForNames fs numbers) c.as_slice.ensures.value c.in_ok-name_numbers.ensures in
    ap (λ r. slice_index_or r class []) c.in_ok-repeats.ensures
    ∙ map-at_all (number_flags c.as_slice-2.result.now) lists class []
    ∙ ap (λ ns. number_flags ns (slice_index_or lists class [])) c.as_slice-2.ensures.value
    ∙ flags_are features numbers stand (slice_index_or lists class []) (live_same c.args.meta.now c.args.numbers.now class features (slice_index_or lists class []) c.requires.numbers refl (c.requires.lists class))
