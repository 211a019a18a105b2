use Rattle.std.proofs.Common.{◌≡◌, ◌∙◌, [], ◌++◌, sym, ap, append-nil, rules}
use Rattle.qvt_exec_visits.proofs.reached.list_of.Goals as goal

pub returns : goal.returns
returns c =
    let ended : c.loop-item.item-iterator ≡ [] = search rules in
    sym (append-nil c.loop-item.items) ∙ ap (λ rest. c.loop-item.items ++ rest) (sym ended) ∙ c.loop-item.invariant
    ∙ c.into_iter-item-iterator.ensures.into_iter_gives.0
