use Rattle.std.proofs.Common.{◌∙◌, ◌++◌, ◌∷◌, [], sym, subst}
use Rattle.std.specs.Prelude.{All}
use Rattle.std.proofs.lemmas.List.{take_more}
use Rattle.std.proofs.lemmas.List.Elements.{All-push}
use Rattle.qvt_slots.specs.Types.{HasCodeType}
use Rattle.qvt_slots.proofs.values.copied.Goals as goal

pub loop-value-preserved : goal.loop-value-preserved
loop-value-preserved c = record {
  same = c.in_ok-push.ensures.ok ∙ (λ i. c.loop-value.invariant.same i ++ (c.in_ok-plain_copy.ensures.same ∙ c.value-item.is) i ∷ [])
      ∙ sym (take_more c.args.values.now c.loop-value.value-index c.value-item.result c.loop-value-test.true);
  plain = subst (All HasCodeType) (sym c.in_ok-push.ensures.ok) (All-push HasCodeType c.loop-value.copies c.in_ok-plain_copy.field-0 c.loop-value.invariant.plain c.in_ok-plain_copy.ensures.plain);
}

pub returns-clause-plain : goal.returns-clause-plain
returns-clause-plain c = c.loop-value.invariant.plain
