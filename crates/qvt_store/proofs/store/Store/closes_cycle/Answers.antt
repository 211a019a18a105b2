use Rattle.std.proofs.Common.{◌≡◌, ◌↔◌, ◌∙◌, ℕ, List, refl, sym, subst, true, false}
use Rattle.qvt_base.specs.declared.numbers.Oid.{Oid}
use Rattle.qvt_metamodel.specs.Metamodels.{is_containment}
use Rattle.qvt_metamodel.specs.WellFormed.{IsWellFormed}
use Rattle.qvt_relation.proofs.Bools.{clash}
use Rattle.qvt_slots.specs.Change.{is_container, among_objects}
use Rattle.qvt_slots.specs.Contents.{Contents, slot_of, is_live}
use Rattle.qvt_store.specs.Draft.{drafted}
use Rattle.qvt_slots.specs.Walk.{SomeOver, IsOverSome}
use Rattle.qvt_store.proofs.CycleTests.{items_only, end_only, closes_none}
use Rattle.qvt_store.proofs.Cycles.{not_container}
use Rattle.qvt_store.proofs.store.Store.closes_cycle.Goals as goal

pub returns-then-is_containment : goal.returns-then-is_containment
returns-then-is_containment c =
    let well = subst (λ (s : Contents). IsWellFormed s.metas) c.self.view_is c.self.invariant.whole.well_formed in
    let cont = subst (λ (s : Contents). is_containment s.metas c.args.draft.now.feature.0 ≡ true) c.self.view_is (sym c.is_containment.ensures ∙ c.if-is_containment.true) in
    let e = items_only (drafted c.args.self.now c.args.draft.now) (not_container c.args.self.now.metas well c.args.draft.now.feature.0 cont) cont in
    let here = subst (λ (l : List Oid). (c.is_some_over.result ≡ true) ↔ SomeOver c.args.self.now.metas (slot_of c.args.self.now) l c.args.draft.now.object.0) c.as_slice.ensures c.is_some_over.ensures in
    (λ t. e.1 (here.0 t), λ k. here.1 (e.0 k))

pub is_over_some-requires : goal.is_over_some-requires
is_over_some-requires c = subst (λ (l : List Oid). (y : ℕ) → among_objects l y ≡ true → is_live c.args.self.now y ≡ true) (sym c.as_slice-then-is_container.ensures) c.requires.added.live

pub returns-then-is_container : goal.returns-then-is_container
returns-then-is_container c =
    let plain = subst (λ (s : Contents). is_containment s.metas c.args.draft.now.feature.0 ≡ false) c.self.view_is (sym c.is_containment.ensures ∙ c.if-is_containment.false) in
    let cont = subst (λ (s : Contents). is_container s.metas c.args.draft.now.feature.0 ≡ true) c.self.view_is (sym c.is_container.ensures ∙ c.if-is_container.true) in
    let e = end_only (drafted c.args.self.now c.args.draft.now) plain cont in
    let here = subst (λ (l : List Oid). (c.is_over_some.result ≡ true) ↔ IsOverSome c.args.self.now.metas (slot_of c.args.self.now) c.args.draft.now.object.0 l) c.as_slice-then-is_container.ensures c.is_over_some.ensures in
    (λ t. e.1 (here.0 t), λ k. here.1 (e.0 k))

pub returns : goal.returns
returns c = (
  λ t. clash false t refl,
  λ k. absurd (closes_none (drafted c.args.self.now c.args.draft.now)
      (subst (λ (s : Contents). is_containment s.metas c.args.draft.now.feature.0 ≡ false) c.self.view_is (sym c.is_containment.ensures ∙ c.if-is_containment.false))
      (subst (λ (s : Contents). is_container s.metas c.args.draft.now.feature.0 ≡ false) c.self.view_is (sym c.is_container.ensures ∙ c.if-is_container.false)) k),
)
