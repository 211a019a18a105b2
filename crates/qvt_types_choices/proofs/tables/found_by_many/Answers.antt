use Rattle.std.proofs.Common.{◌≡◌, ◌∙◌, ◌<◌, false, length, sym, ap, subst}
use Rattle.std.proofs.lemmas.List.FromFn.{length-map-range_with_len}
use Rattle.qvt_types_units.specs.declared.choice.FoundUnit.TheVariants.{NoUnit}
use Rattle.qvt_types_choices.specs.ByClass.{choice_for, choices}
use Rattle.qvt_types_choices.proofs.Chosen.{choice_there, settled_so}
use Rattle.qvt_types_choices.proofs.tables.found_by_many.Goals as goal

pub returns-in-Some : goal.returns-in-Some
returns-in-Some c =
    let m = c.args.metas.now in
    let us = c.args.units.now in
    let ns = c.args.group.now in
    let h = c.in-Some.ensures.lookup in
    let are : c.as_slice.result.now ≡ choices m us ns (length m.classes) = c.as_slice.ensures ∙ c.requires.chosen.each in
    let low : c.args.class.0 < length m.classes = subst (λ n. c.args.class.0 < n) (ap length are ∙ length-map-range_with_len (choice_for m us ns) 0 (length m.classes)) h.3.0 in
    settled_so m us c.are_well_formed.ensures.regular.transitive ns c.args.choices.now.stuck c.args.class.0 false c.in-Some.choice.now c.found.result (sym c.requires.sure) c.requires.chosen.stuck
    (choice_there m us ns c.as_slice.result.now (length m.classes) c.args.class.0 c.in-Some.choice.now are low (h.3.1 NoUnit))
    c.found.ensures
