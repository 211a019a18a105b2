use Rattle.std.proofs.Common.{sym, subst, []}
use Rattle.qvt_exec_loops.specs.Turns.{rest_of, Finds}
use Rattle.qvt_exec_loops.specs.declared.turns.Turns.{Turns}
use Rattle.qvt_exec_loops.proofs.turns.Turns.finish.Goals as goal

pub returns-in-Kept : goal.returns-in-Kept
returns-in-Kept c =
    λ f. subst (λ (t : Turns). Finds (rest_of c.args.place f t []) c.finish.result) (sym c.in-Kept.is) (c.finish.ensures f)

pub returns-in-Gathered : goal.returns-in-Gathered
returns-in-Gathered c =
    λ f. subst (λ (t : Turns). Finds (rest_of c.args.place f t []) c.finish-in-Gathered.result) (sym c.in-Gathered.is) (c.finish-in-Gathered.ensures f)

pub returns-in-Sorted : goal.returns-in-Sorted
returns-in-Sorted c =
    λ f. subst (λ (t : Turns). Finds (rest_of c.args.place f t []) c.finish-in-Sorted.result) (sym c.in-Sorted.is) (c.finish-in-Sorted.ensures f)
