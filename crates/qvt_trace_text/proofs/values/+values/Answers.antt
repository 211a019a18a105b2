use Rattle.std.proofs.Common.{◌≡◌, ◌∙◌, ap, map, subst, sym}
use Rattle.std.specs.Prelude.{IfOk}
use Rattle.serde_json.specs.View.{items_of, view}
use Rattle.qvt_meaning_report.specs.TraceText.{value_data}
use Rattle.qvt_trace_text.specs.Parts.{coll_data}
use Rattle.qvt_trace_text.proofs.Collected.{coll_is}
use Rattle.qvt_trace_text.proofs.values.+values.Goals as goal

pub item_value-returns-in_ok-values-in-Coll : goal.item_value-returns-in_ok-values-in-Coll
item_value-returns-in_ok-values-in-Coll t c =
    let s = c.args.ids.now.store.now in
    let ids = c.args.ids.now.ids.now in
    subst (λ d. IfOk c.coll_value.result (λ v. view v ≡ d))
    (ap (λ ds. coll_data c.in-Coll.kind (items_of ds)) (c.in_ok-values-in-Coll.ensures ∙ ap (map (value_data s ids)) c.as_slice.ensures)
    ∙ sym (ap (value_data s ids) c.in-Coll.is ∙ coll_is s ids c.in-Coll.kind c.in-Coll.items))
    c.coll_value.ensures
