use Rattle.qvt_types_choices.proofs.Lowest.{lowest_so}
use Rattle.qvt_types_choices.proofs.candidates.lowest.Goals as goal

pub returns-in_ok-lowest-in-len1-up : goal.returns-in_ok-lowest-in-len1-up
returns-in_ok-lowest-in-len1-up c =
    lowest_so c.args.metas.now c.args.units.now c.are_well_formed.ensures.regular.transitive c.args.group.now c.in-len1-up.len_at_least c.least-number.result c.least-number.ensures _ c.in_ok-lowest-in-len1-up.ensures
