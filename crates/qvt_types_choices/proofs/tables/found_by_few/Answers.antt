use Rattle.std.proofs.Common.{false, sym}
use Rattle.qvt_types_choices.proofs.Chosen.{settled_so}
use Rattle.qvt_types_choices.proofs.tables.found_by_few.Goals as goal

pub returns : goal.returns
returns c =
    settled_so c.args.metas.now c.args.units.now c.are_well_formed.ensures.regular.transitive c.args.group.now c.args.stuck.now c.args.class.0
    false c.choice_by_stuck-choice.result c.found.result (sym c.requires.sure) c.requires.stuck c.choice_by_stuck-choice.ensures c.found.ensures
