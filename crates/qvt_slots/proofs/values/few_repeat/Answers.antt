use Rattle.std.proofs.Common.{◌∙◌, ◌||◌, ◌+◌, drop, sym, ap}
use Rattle.std.specs.List.{list_any}
use Rattle.std.proofs.lemmas.List.{drop_all}
use Rattle.qvt_value.specs.Kept.{is_same}
use Rattle.qvt_value.specs.Order.{order_of}
use Rattle.qvt_slots.specs.Repeats.{repeats}
use Rattle.qvt_slots.proofs.Repeating.{repeats-drop}
use Rattle.qvt_slots.proofs.values.few_repeat.Goals as goal

pub returns-then-stands_in : goal.returns-then-stands_in
returns-then-stands_in c = sym (c.loop-i.invariant ∙ repeats-drop c.args.values.now c.loop-i.i c.index-values-i.result c.loop-i-test.true
    ∙ ap (λ v. list_any (is_same order_of v) (drop (c.loop-i.i + 1) c.args.values.now) || repeats (drop (c.loop-i.i + 1) c.args.values.now)) (sym c.index-values-i.is)
    ∙ ap (λ l. list_any (is_same order_of c.index-values-i.result) l || repeats (drop (c.loop-i.i + 1) c.args.values.now)) (sym c.split_at.ensures.back)
    ∙ ap (λ b. b || repeats (drop (c.loop-i.i + 1) c.args.values.now)) (sym c.stands_in.ensures ∙ c.if-stands_in.true))

pub loop-i-preserved : goal.loop-i-preserved
loop-i-preserved c = c.loop-i.invariant ∙ repeats-drop c.args.values.now c.loop-i.i c.index-values-i.result c.loop-i-test.true
    ∙ ap (λ v. list_any (is_same order_of v) (drop (c.loop-i.i + 1) c.args.values.now) || repeats (drop (c.loop-i.i + 1) c.args.values.now)) (sym c.index-values-i.is)
    ∙ ap (λ l. list_any (is_same order_of c.index-values-i.result) l || repeats (drop (c.loop-i.i + 1) c.args.values.now)) (sym c.split_at.ensures.back)
    ∙ ap (λ b. b || repeats (drop (c.loop-i.i + 1) c.args.values.now)) (sym c.stands_in.ensures ∙ c.if-stands_in.false)

pub returns : goal.returns
returns c = sym (c.loop-i.invariant ∙ ap repeats (drop_all c.loop-i.i c.args.values.now c.loop-i-test.false))
