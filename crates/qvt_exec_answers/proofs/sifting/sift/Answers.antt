use Rattle.std.proofs.Common.{◌≡◌, None, rules}
use Rattle.std.proofs.lemmas.List.{get_or_default}
use Rattle.qvt_exec_answers.specs.Weights.{test_of}
use Rattle.qvt_exec_answers.proofs.Next.{past_at}
use Rattle.qvt_exec_answers.proofs.sifting.sift.Goals as goal

pub returns-in_default : goal.returns-in_default
returns-in_default c =
    let q = c.args.question.now in
    let none : c.in_ok-sum.field-0 ≡ None = search (rules, c.in_default.is) in
    past_at (test_of c.args.a.now c.args.store.now q) q.one c.loop-object.done c.loop-object.cost c.args.objects.now c.loop-object.object-index _ c.args.room.now.fuel c.args.room.now.spent.now _ c.in_ok-sum.field-0
    c.loop-object-test.true (get_or_default c.args.objects.now c.loop-object.object-index _ _ c.loop-object-test.true) c.loop-object.invariant
    (c.in_ok-sum.ensures _ c.in_ok-weight.ensures.cost) none
