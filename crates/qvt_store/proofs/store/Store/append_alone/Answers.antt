use Rattle.std.proofs.Common.{◌≡◌, ◌∙◌, ℕ, false, subst, ◌++◌, ◌∷◌, [], sym, ap, length}
use Rattle.std.specs.Prelude.{Option, Ok}
use Rattle.qvt_value.specs.declared.value.Value.{Value}
use Rattle.qvt_metamodel.specs.Metamodels.{shape_of}
use Rattle.qvt_slots.specs.Contents.{Contents, slot_of}
use Rattle.qvt_slots.specs.Assign.{exceeds_bound, change_to, store_after}
use Rattle.qvt_store.specs.Ready.{IsLone}
use Rattle.qvt_store.proofs.Appending.{length-last, count_is}
use Rattle.qvt_store.proofs.Alone.{read_only, crossing, appended}
use Rattle.qvt_store.proofs.store.Store.append_alone.Goals as goal

pub returns-then-not-is_writable-clause-refused : goal.returns-then-not-is_writable-clause-refused
returns-then-not-is_writable-clause-refused c _ = read_only c.args.self.now c.args.object c.args.feature (c.args.value.now ∷ []) (c.args.value.now ∷ []) c.requires.known c.requires.can c.requires.alone c.requires.last c.in-Some.count (length-last (slot_of c.args.self.now c.args.object.0 c.args.feature.0) c.args.value.now (length c.list.result.now) c.in-Some.count (ap length c.list.ensures) (count_is (length c.list.result.now) 1 c.checked_add.result c.in-Some.count c.checked_add.ensures c.in-Some.is))
    (sym (c.exceeds_bound.ensures ∙ ap (λ (u : Option ℕ). exceeds_bound c.in-Some.count u) (c.upper.ensures ∙ ap (λ (s : Contents). (shape_of s.metas c.args.feature.0).upper) c.self.view_is)) ∙ c.if-exceeds_bound.false) (sym c.is_writable.ensures ∙ c.if-not-is_writable.true)

pub returns-then-crosses_last-clause-refused : goal.returns-then-crosses_last-clause-refused
returns-then-crosses_last-clause-refused c _ = crossing c.args.self.now c.args.object c.args.feature (c.args.value.now ∷ []) (c.args.value.now ∷ []) c.requires.known c.requires.can c.requires.alone c.requires.last c.in-Some.count (length-last (slot_of c.args.self.now c.args.object.0 c.args.feature.0) c.args.value.now (length c.list.result.now) c.in-Some.count (ap length c.list.ensures) (count_is (length c.list.result.now) 1 c.checked_add.result c.in-Some.count c.checked_add.ensures c.in-Some.is))
    (sym (c.exceeds_bound.ensures ∙ ap (λ (u : Option ℕ). exceeds_bound c.in-Some.count u) (c.upper.ensures ∙ ap (λ (s : Contents). (shape_of s.metas c.args.feature.0).upper) c.self.view_is)) ∙ c.if-exceeds_bound.false) (sym c.is_writable.ensures ∙ c.if-not-is_writable.false) (sym c.crosses_last.ensures ∙ c.if-crosses_last.true)

pub returns-in-Ok-clause-ok : goal.returns-in-Ok-clause-ok
returns-in-Ok-clause-ok c = appended c.args.self.now c.args.object c.args.feature (c.args.value.now ∷ []) (c.args.value.now ∷ []) c.requires.known c.requires.can c.requires.alone c.requires.last c.in-Some.count (length-last (slot_of c.args.self.now c.args.object.0 c.args.feature.0) c.args.value.now (length c.list.result.now) c.in-Some.count (ap length c.list.ensures) (count_is (length c.list.result.now) 1 c.checked_add.result c.in-Some.count c.checked_add.ensures c.in-Some.is))
    (sym (c.exceeds_bound.ensures ∙ ap (λ (u : Option ℕ). exceeds_bound c.in-Some.count u) (c.upper.ensures ∙ ap (λ (s : Contents). (shape_of s.metas c.args.feature.0).upper) c.self.view_is)) ∙ c.if-exceeds_bound.false) (sym c.is_writable.ensures ∙ c.if-not-is_writable.false) (sym c.crosses_last.ensures ∙ c.if-crosses_last.false)
    ∙ ap (λ (s : Contents). Ok s) (sym (c.in-Ok.ensures.ok ∙ ap (λ (v : Value). store_after c.args.self.now (change_to c.args.self.now c.args.object.0 c.args.feature.0 ((slot_of c.args.self.now c.args.object.0 c.args.feature.0) ++ v ∷ []))) c.in_ok-copy.ensures))

pub carry_alone-requires : goal.carry_alone-requires
carry_alone-requires c = subst (λ (v : Value). IsLone c.args.self.now c.args.object.0 c.args.feature.0 (v ∷ [])) (sym c.in_ok-copy.ensures) (record {
  known = c.requires.known;
  given = c.args.value.now ∷ [];
  can = c.requires.can;
  alone = c.requires.alone;
  last = c.requires.last;
  few = subst (λ n. exceeds_bound n (shape_of c.args.self.now.metas c.args.feature.0).upper ≡ false)
      (length-last (slot_of c.args.self.now c.args.object.0 c.args.feature.0) c.args.value.now (length c.list.result.now) c.in-Some.count (ap length c.list.ensures) (count_is (length c.list.result.now) 1 c.checked_add.result c.in-Some.count c.checked_add.ensures c.in-Some.is))
      (sym (c.exceeds_bound.ensures ∙ ap (λ (u : Option ℕ). exceeds_bound c.in-Some.count u) (c.upper.ensures ∙ ap (λ (s : Contents). (shape_of s.metas c.args.feature.0).upper) c.self.view_is)) ∙ c.if-exceeds_bound.false);
  writable = sym c.is_writable.ensures ∙ c.if-not-is_writable.false;
  own = sym c.crosses_last.ensures ∙ c.if-crosses_last.false;
})
