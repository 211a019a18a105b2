use Rattle.std.proofs.Common.{◌∙◌, ◌+◌, not, sym, ap, take_all}
use Rattle.qvt_repeats.specs.Repeats.{repeats_by}
use Rattle.qvt_repeats.proofs.Repeating.{repeats_found}
use Rattle.qvt_conform.specs.Items.{same_item}
use Rattle.qvt_conform.proofs.SameItems.{seen_next, repeats_next}
use Rattle.qvt_conform.proofs.items.repeats.Goals as goal

pub returns-then-not-branch : goal.returns-then-not-branch
returns-then-not-branch c = sym (repeats_found same_item c.args.items.now (c.loop-item.item-index + 1)
    (repeats_next c.args.items.now c.loop-item.seen c.loop-item.item-index c.item-item.result c.loop-item-test.true c.item-item.is c.loop-item.invariant.seen
    c.in_ok-add.field-0 c.loop-item.invariant.once c.in_ok-add.ensures.new ∙ ap not c.if-not-branch.true))

pub loop-item-preserved : goal.loop-item-preserved
loop-item-preserved c = record {
  seen = seen_next c.args.items.now c.loop-item.seen c.loop-item.item-index c.item-item.result c.loop-item-test.true c.item-item.is c.loop-item.invariant.seen
      c.add.new.self (c.in_ok-add.ensures.added c.if-not-branch.false);
  once = repeats_next c.args.items.now c.loop-item.seen c.loop-item.item-index c.item-item.result c.loop-item-test.true c.item-item.is c.loop-item.invariant.seen
      c.in_ok-add.field-0 c.loop-item.invariant.once c.in_ok-add.ensures.new ∙ ap not c.if-not-branch.false;
}

pub returns : goal.returns
returns c = sym (ap (repeats_by same_item) (sym (take_all c.loop-item.item-index c.args.items.now c.loop-item-test.false)) ∙ c.loop-item.invariant.once)
