use Rattle.std.proofs.Common.{sym, subst, List, length, true}
use Rattle.qvt_slots.specs.declared.cell.Cell.{Cell}
use Rattle.qvt_slots.specs.declared.extent.Extent.{Extent}
use Rattle.qvt_metamodel.specs.Metamodels.{Metamodels}
use Rattle.qvt_slots.specs.Contents.{AreNamed}
use Rattle.qvt_slots.specs.Cells.{contents_of, IsStoreKept}
use Rattle.qvt_slots.specs.Members.{AreEmpty}
use Rattle.qvt_slots.proofs.Added.{empty_kept}
use Rattle.qvt_store_laws.specs.Sound.{Sound}
use Rattle.qvt_store.proofs.store.Store.new.Goals as goal

pub invariant_of-result : goal.invariant_of-result
invariant_of-result c = subst (λ (l : List Cell). IsStoreKept c.in_ok-metas.metas c.in_ok-extents.extents l c.in_ok-members.members.items (record { distinct = true; own = true })) (sym c.new.ensures.items)
    (empty_kept c.in_ok-metas.metas c.in_ok-extents.extents c.in_ok-members.members.items c.are_well_formed.ensures.well_formed
    (subst (λ (m : Metamodels). AreNamed m c.in_ok-extents.extents) (sym c.in_ok-metas.ensures) (subst (λ (l : List Extent). AreNamed c.args.metas.now l) (sym c.in_ok-extents.ensures) c.requires))
    (subst (λ (l : List Extent). AreEmpty (length l) c.in_ok-members.members.items) c.as_slice.ensures c.in_ok-members.ensures))

pub returns-clause-sound : goal.returns-clause-sound
returns-clause-sound c = subst (λ (l : List Cell). Sound (contents_of c.in_ok-metas.metas c.in_ok-extents.extents l)) (sym c.new.ensures.items) (c.new_is_sound.ensures c.in_ok-metas.metas c.in_ok-extents.extents)
