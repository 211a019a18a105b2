use Rattle.std.proofs.Common.{◌≡◌, ◌∙◌, sym, subst, arith, ℕ, true}
use Rattle.std.specs.Prelude.{IfSome, Some, None, Option}
use Rattle.qvt_slots.proofs.Cells.{cell-holder, holder_some, no_holder}
use Rattle.qvt_slots.specs.declared.cell.Holder.{Holder}
use Rattle.qvt_metamodel.specs.Metamodels.{is_containment}
use Rattle.qvt_slots.specs.Slots.{has}
use Rattle.qvt_slots.specs.Contents.{Contents, slot_of}
use Rattle.qvt_slots.specs.Cells.{holder_in}
use Rattle.qvt_store.proofs.store.Store.holder.Goals as goal

abbrev IsOnly : Option Holder → Contents → ℕ → Type 0
IsOnly o s y = (x f : ℕ) → is_containment s.metas f ≡ true → has (slot_of s x f) y ≡ true → o ≡ Some (holder_in x f)

pub returns-then-at-len-clause-some : goal.returns-then-at-len-clause-some
returns-then-at-len-clause-some c = subst (λ (s : Contents). IfSome c.index.result.now.holder (λ h. (is_containment s.metas h.feature.0 ≡ true) × (has (slot_of s h.object.0 h.feature.0) c.args.object.0 ≡ true))) c.self.view_is
    (holder_some c.self.inside.metas c.self.inside.cells.items c.args.object.0 c.index.result.now (omega arith) c.index.ensures c.self.invariant.whole.holders)

pub returns-then-at-len-clause-only : goal.returns-then-at-len-clause-only
returns-then-at-len-clause-only c = subst (λ (s : Contents). IsOnly c.index.result.now.holder s c.args.object.0) c.self.view_is
    (λ x f k h. sym (cell-holder c.self.inside.cells.items c.args.object.0 c.index.result.now (omega arith) c.index.ensures) ∙ c.self.invariant.whole.holders.held x f c.args.object.0 k h)

pub returns-else-at-len-clause-only : goal.returns-else-at-len-clause-only
returns-else-at-len-clause-only c = subst (λ (s : Contents). IsOnly None s c.args.object.0) c.self.view_is
    (λ x f k h. sym (no_holder c.self.inside.cells.items c.args.object.0 (omega arith)) ∙ c.self.invariant.whole.holders.held x f c.args.object.0 k h)
