use Rattle.std.proofs.Common.{◌∙◌, ◌+◌, sym, ap, subst}
use Rattle.std.specs.List.{list_any}
use Rattle.qvt_value.specs.declared.value.Value.{Value}
use Rattle.qvt_value.specs.Kept.{is_same}
use Rattle.qvt_value.specs.Order.{order_of}
use Rattle.qvt_slots.specs.Noted.{NotesValue}
use Rattle.qvt_slots.proofs.Noting.{noted_next, repeats_next, repeats_found}
use Rattle.qvt_slots.proofs.values.many_repeat.Goals as goal

pub returns-then-branch : goal.returns-then-branch
returns-then-branch c = sym (repeats_found c.args.values.now (c.loop-value.value-index + 1)
    (repeats_next c.args.values.now c.loop-value.value-index c.value-item.result c.loop-value.seen c.in_ok-note.field-0 c.loop-value-test.true c.loop-value.invariant.seen c.loop-value.invariant.once
    (c.in_ok-note.ensures.before ∙ ap (λ v. list_any (is_same order_of v) c.loop-value.seen) c.value-item.is) ∙ c.if-branch.true))

pub loop-value-preserved : goal.loop-value-preserved
loop-value-preserved c = record {
  seen = noted_next c.loop-value.seen c.note.new.self c.args.values.now c.loop-value.value-index c.value-item.result c.loop-value-test.true c.loop-value.invariant.seen
      (subst (λ (v : Value). NotesValue c.loop-value.seen c.note.new.self v) c.value-item.is c.in_ok-note.ensures.noted);
  once = repeats_next c.args.values.now c.loop-value.value-index c.value-item.result c.loop-value.seen c.in_ok-note.field-0 c.loop-value-test.true c.loop-value.invariant.seen c.loop-value.invariant.once
      (c.in_ok-note.ensures.before ∙ ap (λ v. list_any (is_same order_of v) c.loop-value.seen) c.value-item.is) ∙ c.if-branch.false;
}
