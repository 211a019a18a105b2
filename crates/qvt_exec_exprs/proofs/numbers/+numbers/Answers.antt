use Rattle.std.proofs.Common.{refl, [], ◌∷◌}
use Rattle.qvt_exec_exprs.proofs.Chains.{chain_is}
use Rattle.qvt_exec_exprs.proofs.Costs.{given_by_one, number_alone, number_of_chain}
use Rattle.qvt_exec_exprs.proofs.numbers.+numbers.Goals as goal

pub linked-returns : goal.linked-returns
linked-returns t c = given_by_one c.args.first.now (c.args.node.now ∷ []) c.args.node.now c.args.state.now.locals c.in_ok-left.left c.in_ok-right.right c.in_ok-given.given refl c.in_ok-left.ensures c.in_ok-right.ensures c.in_ok-given.ensures.value c.in_ok-given.ensures.units

pub number-returns-in-Some : goal.number-returns-in-Some
number-returns-in-Some t c = number_alone c.args.node.now c.args.state.now.locals c.in-Some.number c.in-Some.ensures

pub number-returns-in_ok-number-in-Chain : goal.number-returns-in_ok-number-in-Chain
number-returns-in_ok-number-in-Chain t c =
    number_of_chain c.args.node.now c.deref.result.now c.as_slice.result.now c.args.state.now.locals c.in_ok-given-in-Chain.given c.in_ok-number-in-Chain.number
    (chain_is c.args.node.now c.deref.result.now c.as_slice.result.now c.in-Chain.level c.in-Chain.first c.in-Chain.rest c.in-Chain.place c.in-Chain.note c.in-Chain.is c.deref.ensures c.as_slice.ensures)
    c.in_ok-given-in-Chain.ensures c.in_ok-number-in-Chain.ensures.0 c.in_ok-number-in-Chain.ensures.1
