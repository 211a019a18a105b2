use Rattle.std.proofs.Common.{◌∙◌, ◌++◌, ◌∷◌, [], cond, sym, ap, subst, get_or}
use Rattle.std.specs.Prelude.{All}
use Rattle.std.specs.List.{list_any}
use Rattle.std.proofs.lemmas.List.Elements.{All-push}
use Rattle.qvt_value.specs.declared.value.Value.{Value}
use Rattle.qvt_slots.specs.Types.{HasCodeType}
use Rattle.qvt_value.specs.Kept.{is_same}
use Rattle.qvt_value.specs.Order.{order_of}
use Rattle.qvt_slots.specs.Noted.{NotesValue}
use Rattle.qvt_slots.proofs.Repeating.{without_step}
use Rattle.qvt_slots.proofs.Noting.{noted_next, kept_before}
use Rattle.qvt_slots.proofs.values.many_without_repeats.Goals as goal
use Rattle.qvt_slots.proofs.values.many_without_repeats.Goals.{then-not-branch+in_ok-plain_copy+in_ok-push, else-not-branch}

pub loop-value-preserved : goal.loop-value-preserved
loop-value-preserved c = record {
  seen = noted_next c.loop-value.seen c.note.new.self c.args.values.now c.loop-value.value-index c.value-item.result c.loop-value-test.true c.loop-value.invariant.seen
      (subst (λ (v : Value). NotesValue c.loop-value.seen c.note.new.self v) c.value-item.is c.in_ok-note.ensures.noted);
  kept = without_step c.args.values.now c.loop-value.value-index c.value-item.result c.loop-value.list c.if-not-branch.list c.in_ok-note.field-0 c.loop-value-test.true c.loop-value.invariant.kept
      (kept_before c.args.values.now c.loop-value.value-index c.loop-value.seen c.loop-value.list (get_or c.args.values.now c.loop-value.value-index c.value-item.result) c.in_ok-note.field-0
      c.loop-value.invariant.seen c.loop-value.invariant.kept (c.in_ok-note.ensures.before ∙ ap (λ v. list_any (is_same order_of v) c.loop-value.seen) c.value-item.is))
      (elim c.if-not-branch.branch [
        | then-not-branch+in_ok-plain_copy+in_ok-push w ↦
            w.list-is ∙ w.in_ok-push.ensures.ok
            ∙ ap (λ (v : Value). c.loop-value.list ++ v ∷ []) (w.in_ok-plain_copy.ensures.same ∙ c.value-item.is)
            ∙ sym (ap (λ b. cond b c.loop-value.list (c.loop-value.list ++ get_or c.args.values.now c.loop-value.value-index c.value-item.result ∷ [])) w.if-not-branch.true)
        | else-not-branch w ↦
            w.list-is
            ∙ sym (ap (λ b. cond b c.loop-value.list (c.loop-value.list ++ get_or c.args.values.now c.loop-value.value-index c.value-item.result ∷ [])) w.if-not-branch.false)
      ]);
  plain = elim c.if-not-branch.branch [
    | then-not-branch+in_ok-plain_copy+in_ok-push w ↦ subst (All HasCodeType) (sym (w.list-is ∙ w.in_ok-push.ensures.ok))
        (All-push HasCodeType c.loop-value.list w.in_ok-plain_copy.field-0 c.loop-value.invariant.plain w.in_ok-plain_copy.ensures.plain)
    | else-not-branch w ↦ subst (All HasCodeType) (sym w.list-is) c.loop-value.invariant.plain
  ];
}
