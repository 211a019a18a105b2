use Rattle.std.proofs.Common.{◌∙◌, refl, sym, ap, subst, take_all, ◌↔◌, All, IsTrue, List}
use Rattle.std.proofs.lemmas.List.Elements.{All-more}
use Rattle.qvt_value.specs.declared.value.Value.{Value}
use Rattle.qvt_value.specs.declared.value.Value.TheViews.{Coll}
use Rattle.qvt_ocl_made.specs.AsMade.{IsAsMade}
use Rattle.qvt_ocl_made.proofs.Collections.{value_held}
use Rattle.qvt_ocl_made.proofs.as_made.+as_made.Goals as goal

pub is_as_made-returns-then-holds : goal.is_as_made-returns-then-holds
is_as_made-returns-then-holds t c =
    value_held c.in-Coll.kind c.as_slice.result.now c.args.value.now c.in_ok-holds-in-Coll.holds c.in_ok-all-in-Coll.all
    (c.in-Coll.is ∙ ap (Coll c.in-Coll.kind) (sym c.as_slice.ensures)) c.if-holds.true c.in_ok-holds-in-Coll.ensures
    (subst (λ (xs : List Value). IsTrue c.in_ok-all-in-Coll.all ↔ All IsAsMade xs) (c.as_slice-in-Coll.ensures ∙ sym c.as_slice.ensures) c.in_ok-all-in-Coll.ensures)

pub are_as_made-loop-value-preserved : goal.are_as_made-loop-value-preserved
are_as_made-loop-value-preserved t c =
    All-more IsAsMade c.args.values.now c.loop-value.value-index c.value-item.result c.loop-value-test.true c.loop-value.invariant
    (subst IsAsMade c.value-item.is (c.in_ok-is_as_made.ensures.0 c.if-not-branch.false))

pub are_as_made-returns : goal.are_as_made-returns
are_as_made-returns t c = (λ h. subst (All IsAsMade) (take_all c.loop-value.value-index c.args.values.now c.loop-value-test.false) c.loop-value.invariant, λ a. refl)
