use Rattle.std.proofs.Common.{◌∙◌, ap, rules}
use Rattle.std.specs.Cmp.{on_total}
use Rattle.std.specs.Ordering.{is_lt}
use Rattle.std.proofs.lemmas.Fn.{always_returns_same}
use Rattle.std.proofs.lemmas.List.Sorted.{ranks_by}
use Rattle.qvt_value.specs.Kept.{sorted}
use Rattle.qvt_value.specs.Order.{order_of}
use Rattle.qvt_value.proofs.OrderOfValues.{total}
use Rattle.qvt_run_rules.specs.declared.keyed.Keyed.{Keyed}
use Rattle.qvt_run_rules.specs.Iterators.{key_order}
use Rattle.qvt_exec_words.proofs.Stable.{stable_is}
use Rattle.qvt_exec_words.proofs.iterators.in_order.Goals as goal

pub returns-in-Ok : goal.returns-in-Ok
returns-in-Ok c =
    let key = λ (k : Keyed). k.key in
    let lt = λ (a b : Keyed). is_lt (order_of a.key b.key) in
    let weak = ranks_by total key in
    let answers = always_returns_same _ _ _ (λ a r q k. search rules) in
    stable_is key_order (on_total key total) _ _ (c.in-Ok.ensures.sorted lt weak answers) (c.in-Ok.ensures.stable lt weak answers)
    ∙ ap (sorted key_order) c.into_vec-all.ensures
