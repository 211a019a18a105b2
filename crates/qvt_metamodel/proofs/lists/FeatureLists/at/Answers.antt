use Rattle.std.proofs.Common.{◌≡◌, ◌∙◌, [], ap, sym, subst, take}
use Rattle.std.proofs.lemmas.List.{get_or_read}
use Rattle.qvt_metamodel.specs.Lists.{IsLineFront}
use Rattle.qvt_metamodel.proofs.Fronts.{Lines, line_at, list_at, no_list}
use Rattle.qvt_metamodel.proofs.lists.FeatureLists.at.Goals as goal

pub returns-in-None : goal.returns-in-None
returns-in-None c = sym (no_list c.args.self.now.lines c.args.self.now.fronts c.args.class (sym c.in-None.ensures.value))

pub returns-in-Some : goal.returns-in-Some
returns-in-Some c =
    let same : c.self.inside.lines.items ≡ c.args.self.now.lines = ap (λ ls. ls.lines) c.self.view_is in
    let is : IsLineFront c.self.inside.lines.items c.in-Some.front = subst (λ (ls : Lines). IsLineFront ls c.in-Some.front) (sym same) c.in-Some.ensures.within in
    c.split_at.ensures.front
    ∙ ap (take c.in-Some.front.count) (c.as_slice.ensures ∙ get_or_read c.self.inside.lines.items c.in-Some.front.line _ is.line c.index.ensures [] ∙ ap (λ ls. line_at ls c.in-Some.front.line) same)
    ∙ sym (list_at c.args.self.now.lines c.args.self.now.fronts c.args.class c.in-Some.front (sym c.in-Some.ensures.value))
