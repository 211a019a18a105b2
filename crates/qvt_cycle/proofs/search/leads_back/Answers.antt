use Rattle.std.proofs.Common.{sym, subst}
use Rattle.qvt_cycle.proofs.Searched.{IsSearch, begun, goes_on}
use Rattle.qvt_cycle.proofs.search.leads_back.Goals as goal

pub loop-object-init : goal.loop-object-init
loop-object-init c = subst (IsSearch c.args.lists.now c.args.start) (sym c.in_ok-search.ensures) (begun c.args.lists.now c.args.start)

pub loop-object-preserved : goal.loop-object-preserved
loop-object-preserved c = subst (IsSearch c.args.lists.now c.args.start) (sym c.in_ok-look_through.ensures) (goes_on c.args.lists.now c.args.start c.in-Some.object c.loop-object.search c.next.new.self c.loop-object.invariant c.in-Some.ensures.next c.in-Some.ensures.marks)
