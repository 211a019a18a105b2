use Rattle.std.proofs.Common.{◌≡◌, ◌∙◌, ◌<◌, ◌++◌, ◌∷◌, refl, sym, ap, subst, List, [], map, length, arith}
use Rattle.std.specs.Prelude.{None, slice_set, slice_index_or}
use Rattle.std.proofs.lemmas.Bool.{ltb-true}
use Rattle.qvt_base.specs.declared.numbers.FeatureNo.{FeatureNo}
use Rattle.qvt_slots.specs.declared.cell.Cell.{Cell}
use Rattle.qvt_slots.specs.Contents.{Contents, HoldOwn, with_new}
use Rattle.qvt_slots.specs.Limits.{most_objects}
use Rattle.qvt_slots.specs.Cells.{contents_of, IsStoreKept}
use Rattle.qvt_slots.proofs.Added.{cells_new, added_kept}
use Rattle.qvt_store_laws.specs.Stay.{InputsStay, StaysIn}
use Rattle.qvt_store_laws.proofs.Own.{own_grown}
use Rattle.qvt_store.proofs.store.Store.add_object.Goals as goal

pub invariant_of-self-2 : goal.invariant_of-self-2
invariant_of-self-2 c =
    let k : Cell = record { class = c.args.class; extent = c.args.extent; slots = c.in_ok-slots.slots; holder = None } in
    let live : c.args.extent < length c.self.inside.members.items =
    subst (λ n. c.args.extent < n) (ap (λ (s : Contents). length s.extents) (sym c.self.view_is) ∙ sym c.self.invariant.listed.count) (ltb-true c.args.extent (length c.args.self.now.extents) c.requires.extent) in
    let count : c.len-count.result ≡ length c.self.inside.cells.items = omega arith in
    let few : length c.self.inside.cells.items < most_objects = omega arith in
    subst (λ (l : List Cell). IsStoreKept c.self.inside.metas c.self.inside.extents l c.add_cell.new.members.items c.self.inside.marks) (sym c.in_ok-add_cell.ensures.cells)
    (added_kept c.self.inside.metas c.self.inside.cells.items k c.self.invariant.whole few refl
    (c.in_ok-slots.ensures ∙ ap (λ (gs : List FeatureNo). map (λ _. []) gs) c.features.ensures)
    c.self.inside.extents c.self.inside.members.items c.add_cell.new.members.items c.self.inside.marks c.self.invariant live
    (c.in_ok-add_cell.ensures.members ∙ ap (λ n. slice_set c.self.inside.members.items c.args.extent (slice_index_or c.self.inside.members.items c.args.extent [] ++ record { 0 = n } ∷ [])) count)
    (λ own. subst HoldOwn (sym (cells_new c.self.inside.metas c.self.inside.extents c.self.inside.cells.items k (c.in_ok-slots.ensures ∙ ap (λ (gs : List FeatureNo). map (λ _. []) gs) c.features.ensures)))
    (own_grown (contents_of c.self.inside.metas c.self.inside.extents c.self.inside.cells.items) c.args.class.0 c.args.extent c.self.invariant.typed own)))

pub returns-clause-stays : goal.returns-clause-stays
returns-clause-stays c =
    let k : Cell = record { class = c.args.class; extent = c.args.extent; slots = c.in_ok-slots.slots; holder = None } in
    subst (StaysIn c.args.self.now) (sym (ap (λ (l : List Cell). contents_of c.self.inside.metas c.self.inside.extents l) c.in_ok-add_cell.ensures.cells
    ∙ cells_new c.self.inside.metas c.self.inside.extents c.self.inside.cells.items k (c.in_ok-slots.ensures ∙ ap (λ (gs : List FeatureNo). map (λ _. []) gs) c.features.ensures)
    ∙ ap (λ (s : Contents). with_new s c.args.class.0 c.args.extent) c.self.view_is)) (c.add_stays.ensures c.args.self.now c.args.class.0 c.args.extent)

pub returns-clause-inputs : goal.returns-clause-inputs
returns-clause-inputs c =
    let k : Cell = record { class = c.args.class; extent = c.args.extent; slots = c.in_ok-slots.slots; holder = None } in
    subst (InputsStay c.args.self.now) (sym (ap (λ (l : List Cell). contents_of c.self.inside.metas c.self.inside.extents l) c.in_ok-add_cell.ensures.cells
    ∙ cells_new c.self.inside.metas c.self.inside.extents c.self.inside.cells.items k (c.in_ok-slots.ensures ∙ ap (λ (gs : List FeatureNo). map (λ _. []) gs) c.features.ensures)
    ∙ ap (λ (s : Contents). with_new s c.args.class.0 c.args.extent) c.self.view_is)) (c.add_leaves_inputs.ensures c.args.self.now c.args.class.0 c.args.extent)
