use Rattle.std.proofs.Common.{◌∙◌, ap, sym}
use Rattle.std.specs.Prelude.{slice_index_or}
use Rattle.qvt_slots.specs.declared.extent.Extent.{Extent}
use Rattle.qvt_slots.specs.Contents.{Contents, no_extent, extent_of}
use Rattle.qvt_store.proofs.CycleTests.{none_at}
use Rattle.qvt_store.proofs.store.Store.is_writable.Goals as goal

pub returns-in-None : goal.returns-in-None
returns-in-None c = sym (ap (λ (s : Contents). (slice_index_or s.extents (extent_of c.args.self.now c.args.object.0) no_extent).writable) (sym c.self.view_is)
    ∙ ap (λ n. (slice_index_or c.self.inside.extents n no_extent).writable) (sym c.extent_or_first.ensures)
    ∙ ap (λ (e : Extent). e.writable) (none_at c.self.inside.extents c.extent_or_first.result no_extent c.in-None.ensures.value))
