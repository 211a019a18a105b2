use Rattle.std.proofs.Common.{◌≡◌, ◌∙◌, ◌+◌, ◌-◌, ◌<◌, length, get_or, sym, ap, arith}
use Rattle.qvt_types_data.specs.declared.refusal.RefusalKind.TheVariants.{UnknownName}
use Rattle.qvt_types_data.specs.declared.ruling.Ruling.TheVariants.{Fails}
use Rattle.qvt_types_names.proofs.Nearest.{decided, left}
use Rattle.qvt_types_names.proofs.sources.by_sources.Goals as goal

pub returns-in-Some : goal.returns-in-Some
returns-in-Some c =
    let all = c.args.sources.now in
    let nearer = c.loop-nearer.nearer in
    decided c.args.metas.now c.args.first c.args.typed.now c.args.name.now all (length all - nearer) (length all - 1 - nearer) c.index-sources-count.result (Fails UnknownName) c.in-Some.ruling _
    (let one : length all - 1 - nearer + 1 ≡ length all - nearer = omega (arith, c.loop-nearer-test.true) in one)
    (let low : length all - 1 - nearer < length all = omega (arith, c.loop-nearer-test.true) in low)
    c.index-sources-count.is c.loop-nearer.invariant (sym c.in-Some.is ∙ c.in_ok-ruling.ensures)

pub loop-nearer-preserved : goal.loop-nearer-preserved
loop-nearer-preserved c =
    let all = c.args.sources.now in
    let nearer = c.loop-nearer.nearer in
    left c.args.metas.now c.args.first c.args.typed.now c.args.name.now all (length all - nearer) (length all - (nearer + 1)) c.index-sources-count.result (Fails UnknownName) _
    (let one : length all - (nearer + 1) + 1 ≡ length all - nearer = omega (arith, c.loop-nearer-test.true) in one)
    (let low : length all - (nearer + 1) < length all = omega (arith, c.loop-nearer-test.true) in low)
    (c.index-sources-count.is ∙ ap (λ k. get_or all k c.index-sources-count.result) (let same : length all - 1 - nearer ≡ length all - (nearer + 1) = omega arith in same))
    c.loop-nearer.invariant (sym c.in_default.is ∙ c.in_ok-ruling.ensures)
