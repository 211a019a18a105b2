use Rattle.std.proofs.Common.{◌∙◌, ap, sym, arith}
use Rattle.qvt_meta_tables.specs.Search.{stands_in, place_of}
use Rattle.qvt_meta_tables.proofs.Searching.{is_order}
use Rattle.qvt_meta_tables.proofs.order.order_of.Goals as goal

pub returns : goal.returns
returns c =
    is_order c.args.classes.now c.in_ok-placed.placed c.in_ok-ranks.ranks c.requires.live (c.in_ok-placed.ensures.all ∙ sym c.requires.count) (c.in_ok-ranks.ensures.each ∙ sym c.requires.count)
    (λ x l. c.in_ok-placed.ensures.each x (omega (arith, l, c.requires.count))) c.in_ok-placed.ensures.closed
    (λ x l p. c.in_ok-ranks.ensures.places x (omega (arith, l, c.requires.count)) (ap (stands_in x) c.as_slice.ensures ∙ p) ∙ ap (place_of x) c.as_slice.ensures)
