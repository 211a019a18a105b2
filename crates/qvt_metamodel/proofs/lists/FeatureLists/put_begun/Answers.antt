use Rattle.std.proofs.Common.{◌≡◌, ◌∙◌, [], ◌∷◌, ◌++◌, Option, Some, ap, arith, map, subst, sym}
use Rattle.std.specs.Prelude.{IfSome}
use Rattle.std.specs.List.{All}
use Rattle.std.proofs.lemmas.List.Elements.{All-set}
use Rattle.qvt_metamodel.specs.declared.front.Front.{Front}
use Rattle.std.specs.Prelude.{slice_set}
use Rattle.qvt_metamodel.specs.Lists.{all_lists, front_of, AreLined, HasFront, IsLineFront}
use Rattle.qvt_metamodel.proofs.Fronts.{Lines, Begins, grows_append, fronts_stay, front_last, lined_more, put_last}
use Rattle.qvt_metamodel.proofs.lists.FeatureLists.put_begun.Goals as goal

pub returns-clause-ok : goal.returns-clause-ok
returns-clause-ok c =
    (λ i. map (front_of (c.in_default.ensures.ok i)) (c.put_front.ensures i))
    ∙ put_last c.self.inside.lines.items c.self.inside.fronts c.args.class c.args.list _ _ (omega (arith, c.len.ensures)) (omega (arith, c.len-2.ensures)) c.self.invariant.within
    ∙ ap (λ ls. slice_set (all_lists ls) c.args.class c.args.list) c.self.view_is

pub invariant_of-self-2 : goal.invariant_of-self-2
invariant_of-self-2 c =
    let lines = c.self.inside.lines.items in
    let more : Lines = lines ++ c.args.list ∷ [] in
    let same : lines ≡ c.args.self.now.lines = ap (λ ls. ls.lines) c.self.view_is in
    let put : All (IsLineFront more) c.put_front.new.fronts =
    subst (All (IsLineFront more)) (sym c.put_front.ensures)
    (All-set (IsLineFront more) c.self.inside.fronts c.args.class _ (front_last lines c.args.list _ _ (omega (arith, c.len.ensures)) (omega (arith, c.len-2.ensures)))
    (fronts_stay lines more (grows_append lines (c.args.list ∷ [])) c.self.inside.fronts c.self.invariant.within)) in
    let begun : (f : Front) → c.args.begin ≡ Some f → IsLineFront lines f × HasFront c.args.list f (front_of lines f) =
    λ f e. subst (λ (ls : Lines). IsLineFront ls f × HasFront c.args.list f (front_of ls f)) (sym same)
    (subst (λ (o : Option Front). IfSome o (λ f. IsLineFront c.args.self.now.lines f × HasFront c.args.list f (front_of c.args.self.now.lines f))) e c.requires) in
    subst (λ (ls : Lines). AreLined ls c.push.new.self c.put_front.new.fronts) (sym c.in_default.ensures.ok)
    (subst (λ (bs : Begins). AreLined more bs c.put_front.new.fronts) (sym c.in_ok-push.ensures.ok)
    (lined_more lines c.self.inside.begins c.self.inside.fronts c.put_front.new.fronts c.args.list c.args.begin c.self.invariant begun put))
