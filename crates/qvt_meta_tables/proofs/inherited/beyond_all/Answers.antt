use Rattle.std.proofs.Common.{[], refl, arith, slice_index_or}
use Rattle.std.proofs.lemmas.Bool.{eq-eqb}
use Rattle.qvt_metamodel.specs.Lists.{all_lists}
use Rattle.qvt_meta_tables.proofs.Once.{none_next}
use Rattle.qvt_meta_tables.proofs.inherited.beyond_all.Goals as goal

pub loop-class-preserved : goal.loop-class-preserved
loop-class-preserved c = λ zero.
    none_next (λ s. slice_index_or (all_lists c.args.lists.now) s.0 []) (slice_index_or (all_lists c.args.lists.now) c.args.superclass []) c.beyond.result.now _ c.args.others.now c.loop-class.class-index (record { 0 = 0 })
    c.loop-class-test.true (c.beyond.ensures (slice_index_or (all_lists c.args.lists.now) c.args.superclass []) [] refl)
    (eq-eqb _ _ (omega (arith, zero, c.saturating_add-count.ensures))) (c.loop-class.invariant (omega (arith, zero, c.saturating_add-count.ensures)))
