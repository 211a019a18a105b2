use Rattle.std.proofs.Common.{◌∙◌, ap, sym}
use Rattle.std.specs.Prelude.{slice_index_or}
use Rattle.qvt_slots.specs.declared.extent.Extent.{Extent}
use Rattle.qvt_slots.specs.Contents.{Contents, no_extent, is_named}
use Rattle.qvt_store.proofs.CycleTests.{none_at}
use Rattle.qvt_store.proofs.store.Store.is_model.Goals as goal

pub returns-in-None : goal.returns-in-None
returns-in-None c = sym (ap (λ (s : Contents). is_named (slice_index_or s.extents c.args.extent no_extent).name) (sym c.self.view_is)
    ∙ ap (λ (e : Extent). is_named e.name) (none_at c.self.inside.extents c.args.extent no_extent c.in-None.ensures.value))
