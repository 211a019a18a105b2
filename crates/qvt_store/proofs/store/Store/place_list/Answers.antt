use Rattle.std.proofs.Common.{subst}
use Rattle.std.specs.Prelude.{All}
use Rattle.qvt_slots.specs.Types.{HasCodeType}
use Rattle.qvt_store.proofs.store.Store.place_list.Goals as goal

pub returns-clause-plain : goal.returns-clause-plain
returns-clause-plain c = subst (All HasCodeType) c.in_ok-items.ensures.same c.in_ok-items.ensures.plain
