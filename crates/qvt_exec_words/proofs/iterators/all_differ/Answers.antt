use Rattle.std.proofs.Common.{◌≡◌, ◌∙◌, ap, false, sym}
use Rattle.std.specs.Prelude.{◌==◌}
use Rattle.std.specs.List.{list_all}
use Rattle.std.proofs.lemmas.List.{at_drop_all}
use Rattle.std.proofs.lemmas.List.Folds.{list_all_at}
use Rattle.qvt_value.specs.declared.value.Value.{Value}
use Rattle.qvt_ocl_words.specs.Lists.{count}
use Rattle.qvt_exec_words.proofs.Differing.{each_once, counted_else}
use Rattle.qvt_exec_words.proofs.iterators.all_differ.Goals as goal

pub returns-then-of-ne1 : goal.returns-then-of-ne1
returns-then-of-ne1 c =
    let vs = c.args.values.now in
    let once = λ (v : Value). count v vs == 1 in
    let v = c.value-item.result in
    let other : once v ≡ false = counted_else vs v c.of.result (c.of.ensures ∙ c.in_ok-counts.ensures v) c.if-of-ne1.true in
    sym (each_once vs ∙ list_all_at once vs c.loop-value.value-index v c.loop-value-test.true (ap once (sym c.value-item.is) ∙ other))

pub returns : goal.returns
returns c =
    let vs = c.args.values.now in
    let once = λ (v : Value). count v vs == 1 in
    sym (each_once vs ∙ sym c.loop-value.invariant ∙ at_drop_all (list_all once) vs c.loop-value.value-index c.loop-value-test.false)
