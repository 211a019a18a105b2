use Rattle.std.proofs.Common.{◌∙◌, ◌++◌, ◌∷◌, [], ap, false, slice_index_or}
use Rattle.std.specs.Prelude.{if◌then◌else◌}
use Rattle.qvt_types_classes.specs.declared.declared.Property.{Property}
use Rattle.qvt_types_classes.proofs.Keys.{flag_is, kept_next}
use Rattle.qvt_types_classes.proofs.reading.unflagged.Goals as goal

pub loop-place-preserved : goal.loop-place-preserved
loop-place-preserved c = λ names is.
    let ps = c.args.properties.now in
    let i = c.loop-place.place in
    kept_next names c.loop-place.kept c.add_unflagged.new.kept _ ps i _ _ c.loop-place-test.true
    (flag_is names ps c.args.flags.now i _ c.loop-place-test.true is)
    (c.loop-place.invariant names is)
    (c.in_ok-add_unflagged.ensures ∙ ap (λ (p : Property). c.loop-place.kept ++ (if slice_index_or c.args.flags.now i false then [] else p ∷ [])) c.index-properties-place.is)
