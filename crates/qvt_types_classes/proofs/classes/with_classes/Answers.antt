use Rattle.std.proofs.Common.{◌≡◌, ◌∙◌, ap, map, subst, sym}
use Rattle.qvt_metas.specs.Extended.{AreGiven}
use Rattle.qvt_tree_types.specs.Module.{unit_view}
use Rattle.qvt_types_classes.specs.Classes.{HaveRanks, HaveSupers, all_data, own_classes, read_classes}
use Rattle.qvt_types_classes.specs.Inherited.{numbered_from}
use Rattle.qvt_types_classes.specs.Written.{all_declared}
use Rattle.qvt_types_classes.proofs.FineShapes.{have_supers}
use Rattle.qvt_types_classes.proofs.Standing.{stands}
use Rattle.qvt_types_classes.proofs.classes.with_classes.Goals as goal

pub classes_above-requires : goal.classes_above-requires
classes_above-requires c =
    subst HaveSupers (sym (c.as_slice.ensures ∙ c.in_ok-written.ensures)) (have_supers c.args.metas.now c.args.names.now c.requires.above (map unit_view c.args.units.now) c.requires.classes)

pub extended_by-requires-clause-given : goal.extended_by-requires-clause-given
extended_by-requires-clause-given c =
    let m = c.args.metas.now in
    let t = c.args.names.now in
    let us = map unit_view c.args.units.now in
    let written : c.as_slice.result.now ≡ all_declared m t us = c.as_slice.ensures ∙ c.in_ok-written.ensures in
    subst (λ ds. AreGiven m (all_data t ds)) (sym (c.as_slice-2.ensures ∙ c.in_ok-read.ensures.read ∙ ap (λ ds. read_classes (own_classes ds)) written))
    (stands m t us c.requires.above c.requires.classes (subst (λ ds. HaveRanks (numbered_from 0 (own_classes ds))) written c.in_ok-read.ensures.ranked))
