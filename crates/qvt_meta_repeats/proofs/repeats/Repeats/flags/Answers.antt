use Rattle.std.proofs.Common.{◌∙◌, ◌<◌, [], ap, arith, length, sym, take}
use Rattle.std.specs.Prelude.{slice_index_or}
use Rattle.std.proofs.lemmas.List.{get_or_read}
use Rattle.qvt_meta_repeats.proofs.Flags.{flags_of_front, no_flags}
use Rattle.qvt_meta_repeats.proofs.repeats.Repeats.flags.Goals as goal

pub returns-in-None : goal.returns-in-None
returns-in-None c =
    sym (no_flags c.self.inside.lines.items c.self.inside.lists.now.fronts c.args.class (sym c.in-None.ensures.value))
    ∙ ap (λ fs. slice_index_or fs c.args.class []) c.self.view_is

pub returns-in-Some : goal.returns-in-Some
returns-in-Some c =
    let there : c.in-Some.front.line < length c.self.inside.lines.items = omega (arith, c.in-Some.ensures.within.line, c.self.invariant.each) in
    c.split_at.ensures.front
    ∙ ap (take c.in-Some.front.count) (c.flags.ensures ∙ get_or_read c.self.inside.lines.items c.in-Some.front.line _ there c.index.ensures [])
    ∙ sym (flags_of_front c.self.inside.lines.items c.self.inside.lists.now.fronts c.args.class c.in-Some.front (sym c.in-Some.ensures.value))
    ∙ ap (λ fs. slice_index_or fs c.args.class []) c.self.view_is
