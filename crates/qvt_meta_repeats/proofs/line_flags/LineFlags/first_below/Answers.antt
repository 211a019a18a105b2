use Rattle.std.proofs.Common.{◌∙◌, false, ap, arith, position, sym, take}
use Rattle.qvt_meta_names.proofs.Fronts.{found_in_front, found_behind, not_found}
use Rattle.qvt_meta_repeats.proofs.line_flags.LineFlags.first_below.Goals as goal

pub returns-in_default : goal.returns-in_default
returns-in_default c =
    sym (ap (λ bs. position (λ b. b) (take c.args.count bs)) (sym c.self.view_is)
    ∙ not_found (λ b. b) c.self.inside.flags c.args.count false (sym c.self.invariant ∙ c.in_default.is))

pub returns-then-place-count : goal.returns-then-place-count
returns-then-place-count c =
    sym (ap (λ bs. position (λ b. b) (take c.args.count bs)) (sym c.self.view_is)
    ∙ found_in_front (λ b. b) c.self.inside.flags c.args.count c.in-Some.place false (sym c.self.invariant ∙ c.in-Some.is) (omega (arith, c.if-place-count.true)))

pub returns-else-place-count : goal.returns-else-place-count
returns-else-place-count c =
    sym (ap (λ bs. position (λ b. b) (take c.args.count bs)) (sym c.self.view_is)
    ∙ found_behind (λ b. b) c.self.inside.flags c.args.count c.in-Some.place false (sym c.self.invariant ∙ c.in-Some.is) (omega (arith, c.if-place-count.false)))
