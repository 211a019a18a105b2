use Rattle.std.proofs.Common.{◌≤◌, sym, subst}
use Rattle.qvt_slots.specs.Cells.{instance_of}
use Rattle.qvt_slots.specs.Limits.{most_objects}
use Rattle.qvt_slots.proofs.Lists.{length-map}
use Rattle.qvt_store_laws.specs.Stay.{IsStore}
use Rattle.qvt_store.proofs.store.Store.is_whole.Goals as goal

pub returns : goal.returns
returns c = subst IsStore c.self.view_is (record {
  well_formed = c.self.invariant.whole.well_formed;
  named = c.self.invariant.named;
  few = subst (λ n. n ≤ most_objects) (sym (length-map instance_of c.self.inside.cells.items)) c.self.invariant.whole.few;
  typed = c.self.invariant.typed;
  outside_itself = c.self.invariant.whole.acyclic;
})
