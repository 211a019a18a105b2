use Rattle.std.proofs.Common.{◌≡◌, refl, sym, ◌∙◌, false}
use Rattle.std.specs.Prelude.{None}
use Rattle.qvt_relation.proofs.Bools.{clash}
use Rattle.qvt_slots.specs.Cells.{holder_at}
use Rattle.qvt_slots.proofs.Cells.{cell-holder}
use Rattle.qvt_slots.proofs.Walks.{walk_starts, walk_goes_on, walk_finds, walk_ends, depth_falls}
use Rattle.qvt_slots.proofs.walk.is_under.Goals as goal

pub loop-at-init : goal.loop-at-init
loop-at-init c = walk_starts c.args.metas.now c.args.cells.now.items c.requires.whole c.args.objects.now c.args.start.0 c.requires.live

pub returns-in-None : goal.returns-in-None
returns-in-None c =
    let e : holder_at c.args.cells.now.items c.loop-at.at.0 ≡ None = cell-holder c.args.cells.now.items c.loop-at.at.0 c.index.result.now c.loop-at.invariant.live c.index.ensures ∙ c.in-None.is in
    (λ t. clash false t refl, λ some. absurd (walk_ends c.args.metas.now c.args.cells.now.items c.requires.whole c.args.objects.now c.args.start.0 c.loop-at.at.0 c.loop-at.invariant (sym c.is_among.ensures ∙ c.loop-at-test.true) e some))

pub loop-at-smaller : goal.loop-at-smaller
loop-at-smaller c =
    depth_falls c.args.metas.now c.args.cells.now.items c.requires.whole c.loop-at.at.0 c.in-Some.holder
    (cell-holder c.args.cells.now.items c.loop-at.at.0 c.index.result.now c.loop-at.invariant.live c.index.ensures ∙ c.in-Some.is)

pub loop-at-preserved : goal.loop-at-preserved
loop-at-preserved c =
    walk_goes_on c.args.metas.now c.args.cells.now.items c.requires.whole c.args.objects.now c.args.start.0 c.loop-at.at.0 c.in-Some.holder c.loop-at.invariant (sym c.is_among.ensures ∙ c.loop-at-test.true)
    (cell-holder c.args.cells.now.items c.loop-at.at.0 c.index.result.now c.loop-at.invariant.live c.index.ensures ∙ c.in-Some.is)

pub returns : goal.returns
returns c =
    (λ _. walk_finds c.args.metas.now c.args.cells.now.items c.requires.whole c.args.objects.now c.args.start.0 c.loop-at.at.0 c.loop-at.invariant (sym c.is_among.ensures ∙ c.loop-at-test.false), λ _. refl)
