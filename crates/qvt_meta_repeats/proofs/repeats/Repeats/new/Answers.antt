use Rattle.std.proofs.Common.{◌∙◌, ap, map, subst, sym}
use Rattle.qvt_meta_repeats.specs.Flags.{front_flags, AreFlagged}
use Rattle.qvt_meta_repeats.proofs.Flags.{are_flagged, fronts_flagged}
use Rattle.qvt_meta_repeats.proofs.repeats.Repeats.new.Goals as goal

pub invariant_of-result : goal.invariant_of-result
invariant_of-result c =
    subst (AreFlagged c.args.lists.now.lines) (sym c.in_ok-lines.ensures) (are_flagged c.args.numbers.now c.args.lists.now.lines)

pub returns : goal.returns
returns c =
    ap (λ ls. map (front_flags ls) c.args.lists.now.fronts) c.in_ok-lines.ensures ∙ fronts_flagged c.args.numbers.now c.args.lists.now.lines c.args.lists.now.fronts
