use Rattle.std.proofs.Common.{◌∙◌, ap, map}
use Rattle.qvt_metamodel.specs.Lists.{all_lists}
use Rattle.qvt_meta_repeats.specs.Flags.{number_flags}
use Rattle.qvt_meta_given.proofs.Known.{flags_known}
use Rattle.qvt_meta_given.proofs.named.name_repeats.Goals as goal

pub returns : goal.returns
returns c =
    c.in_ok-repeats.ensures
    ∙ ap (λ ks. map (number_flags ks) (all_lists c.args.lists.now)) (c.as_slice.ensures.value ∙ c.in_ok-numbers.ensures)
    ∙ flags_known c.args.features.now _ c.in_ok-known.ensures (all_lists c.args.lists.now)
