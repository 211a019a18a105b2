-- What holds of cells after one slot is set.
use Rattle.std.proofs.Common.{◌≡◌, ℕ, ◌<◌, Bool, true, sym, subst, List, length}
use Rattle.std.proofs.lemmas.Bool.{ltb-true}
use Rattle.qvt_metamodel.specs.Metamodels.{Metamodels, has_feature}
use Rattle.qvt_relation.proofs.Bools.{and_left, and_right}
use Rattle.qvt_slots.specs.declared.cell.Cell.{Cell}
use Rattle.qvt_slots.specs.declared.commit.Write.{Write}
use Rattle.qvt_slots.specs.declared.extent.Extent.{Extent}
use Rattle.qvt_slots.specs.Contents.{is_live, is_slot}
use Rattle.qvt_slots.specs.Cells.{instances, instance_in, contents_of, SameObjects}
use Rattle.qvt_slots.specs.Writes.{IsWrite, AllLive}
use Rattle.qvt_slots.proofs.Cells.{length-instances}
use Rattle.qvt_slots.proofs.Holds.{still_write}

pub cells_live : (m : Metamodels) (extents : List Extent) (cells : List Cell) (o p : ℕ) → is_slot (contents_of m extents cells) o p ≡ true → o < length cells
cells_live m extents cells o p h = subst (λ n. o < n) (length-instances cells) (ltb-true o (length (instances cells)) (and_left _ _ h))

pub slot_there : (m : Metamodels) (extents : List Extent) (cells : List Cell) (o p : ℕ) → is_slot (contents_of m extents cells) o p ≡ true → has_feature m (instance_in cells o).class p ≡ true
slot_there m extents cells o p h = and_right (is_live (contents_of m extents cells) o) _ h

pub moved_live : (m : Metamodels) (old new : List Cell) (test : ℕ → Bool) → SameObjects m old new → AllLive old test → AllLive new test
moved_live m old new test same live = record { live = λ y h. subst (λ n. y < n) (sym same.same_length) (live.live y h) }

pub moved_write : (m : Metamodels) (old new : List Cell) (w : Write) → SameObjects m old new → IsWrite m old w → IsWrite m new w
moved_write m old new w same is = still_write m old new w same is
