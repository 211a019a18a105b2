use Rattle.std.proofs.Common.{◌≡◌, List, true, sym, subst, length, ◌<◌}
use Rattle.std.specs.Prelude.{slice_index_or}
use Rattle.qvt_base.specs.declared.numbers.Oid.{Oid}
use Rattle.qvt_store.specs.Contents.{is_live}
use Rattle.qvt_conform.proofs.Lows.{member_is_live}
use Rattle.qvt_conform.proofs.low.lower_bounds.Goals as goal

pub low_feature-requires : goal.low_feature-requires
low_feature-requires c = record {
  live = subst (λ (xs : List Oid). is_live c.args.store.now (slice_index_or xs c.loop-object.object-index (record { 0 = 0 })).0 ≡ true) (sym c.extent-object-items.ensures)
      (member_is_live c.args.store.now c.args.extent c.loop-object.object-index (record { 0 = 0 }) (subst (λ xs. c.loop-object.object-index < length xs) c.extent-object-items.ensures c.loop-object-test.true));
}
