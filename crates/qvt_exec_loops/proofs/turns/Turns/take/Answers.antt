use Rattle.qvt_exec_loops.proofs.TurnLaw.{taken_as}
use Rattle.qvt_exec_loops.proofs.turns.Turns.take.Goals as goal

pub returns-in-Exists : goal.returns-in-Exists
returns-in-Exists c =
    λ f xs. taken_as c.args.place f _ _ c.args.item.now xs c.args.given c.take_exists.result _ c.in-Exists.is (c.take_exists.ensures f c.args.item.now xs)

pub returns-in-ForAll : goal.returns-in-ForAll
returns-in-ForAll c =
    λ f xs. taken_as c.args.place f _ _ c.args.item.now xs c.args.given c.take_for_all.result _ c.in-ForAll.is (c.take_for_all.ensures f c.args.item.now xs)
