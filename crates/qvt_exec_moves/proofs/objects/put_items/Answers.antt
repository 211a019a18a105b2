use Rattle.std.proofs.Common.{◌≡◌, ◌∙◌, false, sym, ap, subst, List}
use Rattle.std.specs.List.{list_any}
use Rattle.qvt_value.specs.declared.value.Value.{Value}
use Rattle.qvt_ocl_words.specs.Lists.{is_null}
use Rattle.qvt_run_rules.specs.Store.{slot_items, written}
use Rattle.qvt_exec_state.specs.Runs.{Runs, seen}
use Rattle.qvt_exec_moves.proofs.Present.{items_put}
use Rattle.qvt_exec_moves.proofs.objects.put_items.Goals as goal

pub returns-else-has_null : goal.returns-else-has_null
returns-else-has_null c =
    let none : list_any is_null c.in-Coll.items ≡ false = ap (list_any is_null) (sym c.as_slice.ensures) ∙ sym c.has_null.ensures ∙ c.if-has_null.false in
    let same : slot_items c.args.single c.args.value.now ≡ c.as_slice-else-has_null.result.now =
    ap (λ b. slot_items b c.args.value.now) c.if-single.false ∙ ap (slot_items false) c.in-Coll.is ∙ items_put c.in-Coll.field-0 c.in-Coll.items none ∙ sym c.as_slice-else-has_null.ensures in
    subst (λ (vs : List Value). Runs (written c.args.object.0 c.args.feature.0 c.args.op vs c.args.place (seen c.args.state.now)) c.written-else-has_null.result c.written-else-has_null.new.state) (sym same)
    c.written-else-has_null.ensures
