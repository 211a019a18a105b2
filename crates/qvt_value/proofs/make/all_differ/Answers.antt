use Rattle.std.proofs.Common.{◌≡◌, ◌∙◌, Bool, true, not, sym, ap, rules}
use Rattle.std.specs.List.{list_any}
use Rattle.qvt_value.specs.contracts.value.ValuePartialEq.TheImpl as equality
use Rattle.qvt_value.proofs.Differing.{now_of, noted, few_more, all_kept}
use Rattle.qvt_value.proofs.make.all_differ.Goals as goal

pub loop-item-preserved : goal.loop-item-preserved
loop-item-preserved c =
    let added : true ≡ not (list_any (λ l. equality.ghosts.eq c.item-item.result l.now) c.loop-item.earlier.keys) = sym c.if-not-branch.false ∙ c.in_ok-insert.ensures.added in
    record {
      seen = ap now_of c.in_ok-insert.ensures.keys ∙ noted c.args.items.now c.loop-item.item-index _ c.loop-item.earlier.keys c.loop-item-test.true c.item-item.is c.loop-item.invariant.seen added;
      few = few_more c.args.items.now c.loop-item.item-index c.item-item.result c.loop-item.earlier.keys c.loop-item-test.true c.item-item.is c.loop-item.invariant.seen added c.loop-item.invariant.few;
    }

pub returns : goal.returns
returns c = λ t. all_kept c.args.items.now c.loop-item.item-index c.loop-item-test.false c.loop-item.invariant.few
