use Rattle.std.proofs.Common.{◌≡◌, ◌∙◌, ◌++◌, ap, map, length, sym, subst}
use Rattle.std.specs.Prelude.{slice_set}
use Rattle.std.specs.List.{All}
use Rattle.std.proofs.lemmas.List.Elements.{All-set}
use Rattle.qvt_metamodel.specs.Lists.{all_lists, front_of, AreLined, IsLineFront}
use Rattle.qvt_metamodel.proofs.Fronts.{Lines, line_at, put_longer, grows_longer, fronts_stay, front_longer, lined_longer}
use Rattle.qvt_metamodel.proofs.lists.FeatureLists.put_after.Goals as goal

pub returns-clause-ok : goal.returns-clause-ok
returns-clause-ok c =
    let same : c.self.inside.lines.items ≡ c.args.self.now.lines = ap (λ ls. ls.lines) c.self.view_is in
    (λ i. map (front_of (c.in_ok-count.ensures.ok i)) (c.put_front.ensures i))
    ∙ put_longer c.self.inside.lines.items c.self.inside.fronts c.args.class c.args.front c.args.features.now _
    (subst (λ (ls : Lines). IsLineFront ls c.args.front) (sym same) c.requires.front)
    (subst (λ (ls : Lines). c.args.front.count ≡ length (line_at ls c.args.front.line)) (sym same) c.requires.whole)
    c.in_ok-count.ensures.length c.self.invariant.within
    ∙ ap (λ ls. slice_set (all_lists ls) c.args.class (front_of ls.lines c.args.front ++ c.args.features.now)) c.self.view_is

pub invariant_of-self-2 : goal.invariant_of-self-2
invariant_of-self-2 c =
    let lines = c.self.inside.lines.items in
    let longer : Lines = slice_set lines c.args.front.line (line_at lines c.args.front.line ++ c.args.features.now) in
    let same : c.self.inside.lines.items ≡ c.args.self.now.lines = ap (λ ls. ls.lines) c.self.view_is in
    let is : IsLineFront lines c.args.front = subst (λ (ls : Lines). IsLineFront ls c.args.front) (sym same) c.requires.front in
    let put : All (IsLineFront longer) c.put_front.new.fronts =
    subst (All (IsLineFront longer)) (sym c.put_front.ensures)
    (All-set (IsLineFront longer) c.self.inside.fronts c.args.class _ (front_longer lines c.args.front.line _ c.args.features.now is.line c.in_ok-count.ensures.length)
    (fronts_stay lines longer (grows_longer lines c.args.front.line c.args.features.now) c.self.inside.fronts c.self.invariant.within)) in
    subst (λ (ls : Lines). AreLined ls c.self.inside.begins c.put_front.new.fronts) (sym c.in_ok-count.ensures.ok)
    (lined_longer lines c.self.inside.begins c.self.inside.fronts c.put_front.new.fronts c.args.front.line c.args.features.now c.self.invariant put)
