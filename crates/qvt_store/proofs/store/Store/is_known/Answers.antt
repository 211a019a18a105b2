use Rattle.std.proofs.Common.{subst}
use Rattle.qvt_store.specs.Ready.{IsKnown}
use Rattle.qvt_store.proofs.Done.{nothing_told}
use Rattle.qvt_store.proofs.store.Store.is_known.Goals as goal

pub returns : goal.returns
returns c = subst IsKnown c.self.view_is (record {
  well_formed = c.self.invariant.whole.well_formed;
  acyclic = c.self.invariant.whole.acyclic;
  typed = c.self.invariant.typed;
  told = nothing_told c.self.inside.metas c.self.inside.extents c.self.inside.cells.items c.self.invariant.whole;
})
