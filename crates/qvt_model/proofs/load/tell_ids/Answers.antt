use Rattle.std.proofs.Common.{◌≡◌, ◌∙◌, ℕ, ◌+◌, ◌==◌, suc, cond, ap, subst, List, arith}
use Rattle.std.specs.Prelude.{Some}
use Rattle.qvt_model.specs.declared.data.ObjectData.{ObjectData}
use Rattle.qvt_model.specs.IdTables.{id_in, with_id}
use Rattle.qvt_model.specs.Steps.{IsTelling}
use Rattle.qvt_model.proofs.Told.{drop_cons, drop_none, told_more}
use Rattle.qvt_model.proofs.load.tell_ids.Goals as goal

pub loop-i-preserved : goal.loop-i-preserved
loop-i-preserved c =
    let more = subst (λ (l : List ObjectData). IsTelling c.args.ids.now c.loop-i.ids c.args.first (c.args.first + c.loop-i.i) c.args.objects.now l)
    (drop_cons c.args.objects.now c.loop-i.i c.index-objects-i.result c.loop-i-test.true c.index-objects-i.is) c.loop-i.invariant in
    told_more c.args.ids.now c.loop-i.ids c.set.new.self c.args.first (c.args.first + c.loop-i.i) (c.args.first + (c.loop-i.i + 1)) c.args.objects.now _ c.index-objects-i.result (next c.args.first c.loop-i.i)
    (c.in_ok-set.ensures.exact ∙ (λ i. with_id c.loop-i.ids (c.in_ok-number.ensures i) (c.in_ok-id.ensures i)))
    (λ z. c.in_ok-set.ensures.ok z ∙ ap (λ x. cond (z == x) (Some c.in_ok-id.id) (id_in c.loop-i.ids z)) c.in_ok-number.ensures
    ∙ ap (λ (t : List ℕ). cond (z == (c.args.first + c.loop-i.i)) (Some t) (id_in c.loop-i.ids z)) c.in_ok-id.ensures) more
  where
    next : (n i : ℕ) → n + (i + 1) ≡ suc (n + i)
    next n i = omega arith

pub returns-clause-exact : goal.returns-clause-exact
returns-clause-exact c = (subst (λ (l : List ObjectData). IsTelling c.args.ids.now c.loop-i.ids c.args.first (c.args.first + c.loop-i.i) c.args.objects.now l)
    (drop_none c.args.objects.now c.loop-i.i c.loop-i-test.false) c.loop-i.invariant).exact

pub returns-clause-told : goal.returns-clause-told
returns-clause-told c = (subst (λ (l : List ObjectData). IsTelling c.args.ids.now c.loop-i.ids c.args.first (c.args.first + c.loop-i.i) c.args.objects.now l)
    (drop_none c.args.objects.now c.loop-i.i c.loop-i-test.false) c.loop-i.invariant).same
