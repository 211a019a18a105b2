use Rattle.std.proofs.Common.{◌∙◌, ◌++◌, ◌∷◌, [], sym, ap, List}
use Rattle.qvt_value.specs.declared.value.Value.{Value}
use Rattle.qvt_slots.proofs.Added.{empties_more}
use Rattle.qvt_slots.proofs.add.empty_slots.Goals as goal

pub loop-feature-preserved : goal.loop-feature-preserved
loop-feature-preserved c = c.in_ok-push.ensures.ok
    ∙ ap (λ (v : List Value). c.loop-feature.slots ++ v ∷ []) c.new.ensures
    ∙ ap (λ (l : List (List Value)). l ++ [] ∷ []) c.loop-feature.invariant
    ∙ sym (empties_more c.args.features.now c.loop-feature._feature-index (record { 0 = 0 }) c.loop-feature-test.true)
