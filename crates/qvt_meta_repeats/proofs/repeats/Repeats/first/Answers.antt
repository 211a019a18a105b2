use Rattle.std.proofs.Common.{◌∙◌, ◌<◌, [], ap, arith, length, position, sym, take}
use Rattle.std.specs.Prelude.{slice_index_or}
use Rattle.std.proofs.lemmas.List.{get_or_read}
use Rattle.qvt_meta_repeats.proofs.Flags.{flags_of_front, no_flags}
use Rattle.qvt_meta_repeats.proofs.repeats.Repeats.first.Goals as goal

pub returns-in_default : goal.returns-in_default
returns-in_default c =
    sym (ap (position (λ b. b))
    (sym (ap (λ fs. slice_index_or fs c.args.class []) c.self.view_is)
    ∙ no_flags c.self.inside.lines.items c.self.inside.lists.now.fronts c.args.class (sym c.front.ensures.value ∙ c.in_default.is)))

pub returns : goal.returns
returns c =
    let there : c.in-Some.front.line < length c.self.inside.lines.items = omega (arith, c.in-Some.ensures.within.line, c.self.invariant.each) in
    c.first_below.ensures
    ∙ ap (position (λ b. b))
    (ap (take c.in-Some.front.count) (get_or_read c.self.inside.lines.items c.in-Some.front.line _ there c.index.ensures [])
    ∙ sym (flags_of_front c.self.inside.lines.items c.self.inside.lists.now.fronts c.args.class c.in-Some.front (sym c.front.ensures.value ∙ c.in-Some.is))
    ∙ ap (λ fs. slice_index_or fs c.args.class []) c.self.view_is)
