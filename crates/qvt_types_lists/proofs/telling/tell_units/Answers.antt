use Rattle.std.proofs.Common.{◌<◌, length, arith}
use Rattle.qvt_types_lists.proofs.Told.{lists_next}
use Rattle.qvt_types_lists.proofs.telling.tell_units.Goals as goal

pub loop-number-preserved : goal.loop-number-preserved
loop-number-preserved c =
    lists_next c.args.listing.now.given.now c.args.listing.now.metas.now c.args.listing.now.names.now c.args.listing.now.units.now c.args.lists.now c.args.written.now c.loop-number.number
    c.index-written-number.result c.loop-number.log _ _
    (let low : c.loop-number.number < length c.args.written.now = omega (arith, c.loop-number-test.true, c.requires.all) in low)
    c.index-written-number.is c.loop-number.invariant c.in_ok-tell_unit.ensures
