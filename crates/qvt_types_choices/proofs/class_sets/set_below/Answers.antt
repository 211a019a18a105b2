use Rattle.std.proofs.Common.{◌∙◌, ◌<◌, length, arith, get_or, subst, sym}
use Rattle.std.proofs.lemmas.List.{get_or_default}
use Rattle.qvt_metas.specs.Kept.{no_row}
use Rattle.qvt_metas.specs.Descends.{descends}
use Rattle.qvt_types_choices.specs.Sets.{IsSetOf}
use Rattle.qvt_types_choices.proofs.Below.{set_plain, set_element, set_none}
use Rattle.qvt_types_choices.proofs.class_sets.set_below.Goals as goal

pub returns-then-at-len : goal.returns-then-at-len
returns-then-at-len c =
    let low : c.args.class.0 < length c.args.metas.now.classes = omega (arith, c.if-at-len.true, c.len.ensures, c.requires.each) in
    let here : c.args.class.0 < length c.args.sets.now.below.items = omega (arith, c.if-at-len.true, c.len.ensures) in
    subst (IsSetOf c.args.metas.now (λ d. descends c.args.metas.now d c.args.class.0))
    (sym (c.index.ensures ∙ get_or_default c.args.sets.now.below.items c.args.class.0 _ no_row here))
    (set_plain c.args.metas.now c.args.class.0 (get_or c.args.sets.now.below.items c.args.class.0 no_row) (sym c.is_element.ensures ∙ c.if-is_element.false) (c.requires.below c.args.class.0 low))

pub returns-then-is_element : goal.returns-then-is_element
returns-then-is_element c =
    set_element c.args.metas.now c.args.class.0 c.args.sets.now.all (sym c.is_element.ensures ∙ c.if-is_element.true) c.requires.all

pub returns-else-at-len : goal.returns-else-at-len
returns-else-at-len c =
    set_none c.args.metas.now c.are_well_formed.ensures.well_formed c.ancestors_are_least.ensures c.args.class.0 c.args.sets.now.none (sym c.is_element.ensures ∙ c.if-is_element.false)
    (omega (arith, c.requires.each, c.if-at-len.false, c.len.ensures)) c.requires.none
