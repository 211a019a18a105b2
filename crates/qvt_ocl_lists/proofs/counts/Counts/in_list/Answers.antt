use Rattle.std.proofs.Common.{◌≡◌, ◌∙◌, ◌+◌, ap, take_all, rules}
use Rattle.qvt_ocl_words.specs.Lists.{count}
use Rattle.qvt_ocl_lists.proofs.CountTables.{counted}
use Rattle.qvt_ocl_lists.proofs.counts.Counts.in_list.Goals as goal

pub loop-value-preserved : goal.loop-value-preserved
loop-value-preserved c =
    let one : c.in-Some.more ≡ c.of.result + 1 = search rules in
    counted c.args.values.now c.loop-value.value-index c.value-item.result c.loop-value.all c.set.new.self c.in-Some.more
    c.loop-value-test.true c.value-item.is c.loop-value.invariant (one ∙ ap (λ n. n + 1) c.of.ensures) c.in_ok-set.ensures

pub returns : goal.returns
returns c = λ x. c.loop-value.invariant x ∙ ap (count x) (take_all c.loop-value.value-index c.args.values.now c.loop-value-test.false)
