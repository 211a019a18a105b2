use Rattle.std.proofs.Common.{◌∙◌, ◌++◌, ◌∷◌, [], cond, sym, ap, subst, get_or}
use Rattle.std.specs.Prelude.{All}
use Rattle.std.specs.List.{list_any}
use Rattle.std.proofs.lemmas.List.Elements.{All-push}
use Rattle.qvt_value.specs.declared.value.Value.{Value}
use Rattle.qvt_slots.specs.Types.{HasCodeType}
use Rattle.qvt_value.specs.Kept.{is_same}
use Rattle.qvt_value.specs.Order.{order_of}
use Rattle.qvt_slots.proofs.Repeating.{without_step}
use Rattle.qvt_slots.proofs.values.few_without_repeats.Goals as goal
use Rattle.qvt_slots.proofs.values.few_without_repeats.Goals.{then-not-holds_value+in_ok-plain_copy+in_ok-push, else-not-holds_value}

pub loop-value-preserved : goal.loop-value-preserved
loop-value-preserved c = record {
  kept = without_step c.args.values.now c.loop-value.value-index c.value-item.result c.loop-value.list c.if-not-holds_value.list c.holds_value.result c.loop-value-test.true c.loop-value.invariant.kept
      (c.holds_value.ensures ∙ ap (λ l. list_any (λ w. is_same order_of w c.value-item.result) l) c.as_slice.ensures ∙ ap (λ v. list_any (λ w. is_same order_of w v) c.loop-value.list) c.value-item.is)
      (elim c.if-not-holds_value.branch [
        | then-not-holds_value+in_ok-plain_copy+in_ok-push w ↦
            w.list-is ∙ w.in_ok-push.ensures.ok
            ∙ ap (λ (v : Value). c.loop-value.list ++ v ∷ []) (w.in_ok-plain_copy.ensures.same ∙ c.value-item.is)
            ∙ sym (ap (λ b. cond b c.loop-value.list (c.loop-value.list ++ get_or c.args.values.now c.loop-value.value-index c.value-item.result ∷ [])) w.if-not-holds_value.true)
        | else-not-holds_value w ↦
            w.list-is
            ∙ sym (ap (λ b. cond b c.loop-value.list (c.loop-value.list ++ get_or c.args.values.now c.loop-value.value-index c.value-item.result ∷ [])) w.if-not-holds_value.false)
      ]);
  plain = elim c.if-not-holds_value.branch [
    | then-not-holds_value+in_ok-plain_copy+in_ok-push w ↦ subst (All HasCodeType) (sym (w.list-is ∙ w.in_ok-push.ensures.ok))
        (All-push HasCodeType c.loop-value.list w.in_ok-plain_copy.field-0 c.loop-value.invariant.plain w.in_ok-plain_copy.ensures.plain)
    | else-not-holds_value w ↦ subst (All HasCodeType) (sym w.list-is) c.loop-value.invariant.plain
  ];
}
