use Rattle.std.proofs.Common.{◌∙◌, ◌/◌, ◌||◌, ◌&&◌, ◌==◌, get_or, set, ap, sym}
use Rattle.std.specs.Int.RustNames.{bit_or}
use Rattle.qvt_metas.specs.Kept.{is_marked}
use Rattle.qvt_counts.specs.Counts.{bits}
use Rattle.qvt_types_choices.proofs.Marked.{marked_more}
use Rattle.qvt_types_choices.proofs.bits.mark_if.Goals as goal

pub returns-then-is_one-clause-marks : goal.returns-then-is_one-clause-marks
returns-then-is_one-clause-marks c d =
    ap (λ ws. is_marked (bits ws) d)
    (c.set.ensures ∙ (λ i. set c.args.words.now (c.args.number / 64) (bit_or (get_or (c.as_slice.ensures i) (c.args.number / 64) 0) (c.bit_of.ensures i))))
    ∙ marked_more c.args.words.now c.args.number c.requires d
    ∙ ap (λ b. is_marked (bits c.args.words.now) d || (b && (c.args.number == d))) (sym c.if-is_one.true)
