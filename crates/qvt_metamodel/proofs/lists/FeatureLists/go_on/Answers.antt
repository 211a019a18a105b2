use Rattle.std.proofs.Common.{◌≡◌, ◌∙◌, [], ◌++◌, Option, Some, None, refl, ap, map, length, sym, subst, slice_index_or}
use Rattle.std.specs.Prelude.{IfSome, OnOk, slice_set, slice_get}
use Rattle.std.proofs.lemmas.List.{nil_from_length}
use Rattle.std.proofs.lemmas.Bool.{eqb-true}
use Rattle.qvt_metamodel.specs.Lists.{all_lists, front_of, HasFront, IsLineFront}
use Rattle.qvt_metamodel.proofs.Fronts.{followed_has, list_at, put_same}
use Rattle.qvt_metamodel.specs.declared.front.Front.{Front}
use Rattle.qvt_metamodel.proofs.lists.FeatureLists.go_on.Goals as goal

pub returns-then-is_empty-clause-ok : goal.returns-then-is_empty-clause-ok
returns-then-is_empty-clause-ok c =
    let none : c.args.own.now ≡ [] = nil_from_length c.args.own.now (eqb-true (length c.args.own.now) 0 (sym c.is_empty.ensures ∙ c.if-is_empty.true)) in
    let here = sym c.in-Some.ensures.value in
    (λ i. map (front_of c.self.inside.lines.items) (c.put_front.ensures i))
    ∙ put_same c.self.inside.lines.items c.self.inside.fronts c.args.class c.args.superclass c.in-Some.front c.args.own.now (ap (λ ls. slice_get ls.fronts c.args.superclass) c.self.view_is ∙ here) none
    ∙ ap (λ ls. slice_set (all_lists ls) c.args.class (slice_index_or (all_lists ls) c.args.superclass [] ++ c.args.own.now)) c.self.view_is

pub returns-then-front-len-clause-ok : goal.returns-then-front-len-clause-ok
returns-then-front-len-clause-ok c =
    subst (λ l. OnOk c.put_after.result (all_lists c.put_after.new.self ≡ slice_set (all_lists c.args.self.now) c.args.class (l ++ c.args.own.now)))
    (sym (list_at c.args.self.now.lines c.args.self.now.fronts c.args.superclass c.in-Some.front (sym c.in-Some.ensures.value)))
    c.put_after.ensures.ok

pub put_begun-requires : goal.put_begun-requires
put_begun-requires c = by c.front-begin.result (λ f e. subst (λ (o : Option Front). IfSome o (IsLineFront c.args.self.now.lines)) e c.front-begin.ensures.within) (λ f e. sym c.front-begin.ensures.value ∙ e)
  where
    by : (o : Option Front) → ((f : Front) → o ≡ Some f → IsLineFront c.args.self.now.lines f) → ((f : Front) → o ≡ Some f → slice_get c.args.self.now.fronts c.args.superclass ≡ Some f)
        → IfSome o (λ f. IsLineFront c.args.self.now.lines f × HasFront c.in_ok-list.list f (front_of c.args.self.now.lines f))
    by None is at = tt
    by (Some f) is at = (
      is f refl,
      followed_has c.args.self.now.lines f c.args.own.now c.in_ok-list.list (is f refl)
          (c.in_ok-list.ensures ∙ ap (λ l. l ++ c.args.own.now) (c.at.ensures ∙ list_at c.args.self.now.lines c.args.self.now.fronts c.args.superclass f (at f refl))),
    )
