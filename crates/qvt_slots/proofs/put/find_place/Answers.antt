use Rattle.qvt_slots.proofs.Places.{if_missing, if_found}
use Rattle.qvt_slots.proofs.put.find_place.Goals as goal

pub returns-clause-none : goal.returns-clause-none
returns-clause-none c = if_missing _ c.args.feature.0 c.place.result c.place.ensures

pub returns-clause-some : goal.returns-clause-some
returns-clause-some c = if_found _ c.args.feature.0 c.place.result c.place.ensures
