use Rattle.std.proofs.Common.{◌≡◌, ◌∙◌, ◌<◌, ◌≤◌, inl, inr, sym, subst, List, length, arith}
use Rattle.std.specs.Prelude.{slice_index_or}
use Rattle.std.proofs.lemmas.Bool.{cases_order, ltb-true}
use Rattle.qvt_metas.specs.Named.{metamodel_at}
use Rattle.qvt_slots.specs.declared.extent.Extent.{Extent}
use Rattle.qvt_store.specs.Contents.{is_named, no_extent}
use Rattle.qvt_slots.proofs.Lists.{any_default}
use Rattle.qvt_checks.proofs.conditions.are_named.Goals as goal

pub loop-extent-init : goal.loop-extent-init
loop-extent-init c = λ e h. absurd (omega arith)

pub loop-extent-preserved : goal.loop-extent-preserved
loop-extent-preserved c = λ e h. elim (cases_order e c.loop-extent.extent-index) [
  | inl same ↦ subst (λ n. is_named (slice_index_or c.as_slice-extent-items.result.now n no_extent).name ≡ is_named (metamodel_at c.args.metas.now (slice_index_or c.as_slice-extent-items.result.now n no_extent).metamodel).name) (sym same)
      (subst (λ (x : Extent). is_named x.name ≡ is_named (metamodel_at c.args.metas.now x.metamodel).name)
      (c.extent-item.is ∙ any_default c.as_slice-extent-items.result.now c.loop-extent.extent-index c.extent-item.result no_extent c.loop-extent-test.true)
      (c.is_named_alike.ensures.named c.if-not-is_named_alike.false))
  | inr (inl less) ↦ c.loop-extent.invariant e less
  | inr (inr more) ↦ absurd (omega arith)
]

pub returns-clause-named : goal.returns-clause-named
returns-clause-named c = λ _. record {
  named = λ e live.
      let within : e < length c.args.extents.now = ltb-true e (length c.args.extents.now) live in
      let beyond : length c.as_slice-extent-items.result.now ≤ c.loop-extent.extent-index = c.loop-extent-test.false in
      subst (λ (l : List Extent). is_named (slice_index_or l e no_extent).name ≡ is_named (metamodel_at c.args.metas.now (slice_index_or l e no_extent).metamodel).name) c.as_slice-extent-items.ensures
      (c.loop-extent.invariant e (subst (λ (l : List Extent). length l ≤ c.loop-extent.extent-index → e < c.loop-extent.extent-index) (sym c.as_slice-extent-items.ensures) (λ b. omega arith) beyond));
}
