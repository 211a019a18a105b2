use Rattle.std.proofs.Common.{subst, sym}
use Rattle.qvt_meta.specs.Numbers.{StandForNames}
use Rattle.qvt_meta.proofs.NameNumbers.{stand_for_names}
use Rattle.qvt_meta.proofs.same_feature.numbers_of_names.Goals as goal

pub returns : goal.returns
returns c = subst (StandForNames c.args.features.now) (sym c.in_ok-numbers.ensures) (stand_for_names c.args.features.now _ c.in_ok-table.ensures)
