use Rattle.std.proofs.Common.{◌∙◌, ap, map}
use Rattle.qvt_metamodel.specs.Lists.{all_lists}
use Rattle.qvt_meta_repeats.specs.Flags.{number_flags}
use Rattle.qvt_types_classes.proofs.Keys.{same_flags}
use Rattle.qvt_types_classes.proofs.keyed.name_repeats.Goals as goal

pub returns : goal.returns
returns c =
    c.in_ok-repeats.ensures
    ∙ ap (λ ks. map (number_flags ks) (all_lists c.args.lists.now)) (c.as_slice.ensures ∙ c.in_ok-keys.ensures)
    ∙ same_flags c.args.all.now (all_lists c.args.lists.now)
