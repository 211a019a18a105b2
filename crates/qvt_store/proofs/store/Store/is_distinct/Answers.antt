use Rattle.std.proofs.Common.{subst}
use Rattle.qvt_slots.specs.Repeats.{AreUnique}
use Rattle.qvt_store.proofs.store.Store.is_distinct.Goals as goal

pub returns : goal.returns
returns c t = subst AreUnique c.self.view_is (c.self.invariant.unique t)
