use Rattle.std.proofs.Common.{◌<◌, length, arith}
use Rattle.qvt_program_exprs.proofs.Places.{all_placed, one_more}
use Rattle.qvt_program_exprs.proofs.index.first_places.Goals as goal

pub loop-place-preserved : goal.loop-place-preserved
loop-place-preserved c =
    one_more c.args.all.now c.loop-place.places _ c.loop-place.place c.index-all-place.result
    (let low : c.loop-place.place < length c.args.all.now = omega (arith, c.loop-place-test.true, c.requires) in low)
    c.index-all-place.is
    c.loop-place.invariant
    c.in_ok-enter_expr.ensures

pub returns : goal.returns
returns c = all_placed c.args.all.now c.loop-place.places c.loop-place.place (omega (arith, c.loop-place-test.false, c.requires)) c.loop-place.invariant
