use Rattle.std.proofs.Common.{◌≡◌, ℕ, ◌<◌}
use Rattle.std.specs.Prelude.{slice_index_or}
use Rattle.qvt_metas.specs.Named.{metamodel_at}
use Rattle.qvt_store.specs.Contents.{is_named, no_extent}
use Rattle.qvt_checks.proofs.conditions.are_named.Given as goal

abbrev pub invariant-loop-extent : goal.invariant-loop-extent
invariant-loop-extent l = (e : ℕ) → e < l.extent-index → is_named (slice_index_or l.extent-items e no_extent).name ≡ is_named (metamodel_at l.metas (slice_index_or l.extent-items e no_extent).metamodel).name
