use Rattle.std.proofs.Common.{◌∙◌, subst, sym}
use Rattle.std.specs.Prelude.{IsTrue}
use Rattle.std.specs.List.{AllByRecursion}
use Rattle.qvt_store.specs.Contents.{is_extent}
use Rattle.qvt_report.proofs.Along.{are_extents}
use Rattle.qvt_report.proofs.extents.low_in.Goals as goal

pub low_among-requires : goal.low_among-requires
low_among-requires c =
    subst (AllByRecursion (λ e. IsTrue (is_extent c.args.store.now e))) (sym (c.as_slice.ensures ∙ c.in_ok-extents.ensures)) (are_extents c.args.store.now)
