use Rattle.std.proofs.Common.{◌≡◌, ◌∙◌, sym, ap, subst, List}
use Rattle.qvt_store.specs.Contents.{Contents}
use Rattle.qvt_store.specs.Sound.{Sound}
use Rattle.qvt_store.specs.Stay.{InputsStay, StaysIn}
use Rattle.qvt_model.specs.declared.data.ObjectData.{ObjectData}
use Rattle.qvt_model.specs.IdTables.{id_in}
use Rattle.qvt_model.specs.Loaded.{id_told, all_told, MembersStay, TellsAll, TellsNoOther}
use Rattle.qvt_model.specs.Steps.{objects_added, CanAdd, put_objects, with_objects, CanPutObjects}
use Rattle.qvt_model.proofs.Loading.{adds, puts, gives, stays_sound}
use Rattle.qvt_model.proofs.Loads.{load_leaves}
use Rattle.qvt_model.proofs.load.load.Goals as goal

pub add_objects-requires : goal.add_objects-requires
add_objects-requires c =
    let well = c.is_whole.ensures.well_formed in
    subst (λ (os : List ObjectData). CanAdd c.args.store.now c.args.extent os) (sym c.as_slice-objects.ensures)
    (adds c.args.store.now c.args.extent c.args.model.now.objects c.requires.loadable well c.is_whole.ensures.typed c.is_whole.ensures.outside_itself c.requires.conforms)

pub place_objects-requires : goal.place_objects-requires
place_objects-requires c =
    let well = c.is_whole.ensures.well_formed in
    let e = c.args.extent in
    let os = c.args.model.now.objects in
    let is : c.add_objects.new.store ≡ objects_added c.args.store.now e os = c.in_ok-add_objects.ensures ∙ ap (objects_added c.args.store.now e) c.as_slice-objects.ensures in
    subst (λ (s : Contents). CanPutObjects s.metas s.extents c.len-first.result c.len-first.result s.objects c.as_slice-objects.result.now) (sym is)
    (subst (λ (xs : List ObjectData). CanPutObjects (objects_added c.args.store.now e os).metas (objects_added c.args.store.now e os).extents c.len-first.result c.len-first.result (objects_added c.args.store.now e os).objects xs) (sym c.as_slice-objects.ensures)
    (subst (λ n. CanPutObjects (objects_added c.args.store.now e os).metas (objects_added c.args.store.now e os).extents n n (objects_added c.args.store.now e os).objects os) (sym c.len-first.ensures)
    (puts c.args.store.now e os c.requires.loadable well c.is_whole.ensures.typed c.is_whole.ensures.outside_itself c.requires.conforms)))

pub returns-clause-store : goal.returns-clause-store
returns-clause-store c =
    let well = c.is_whole.ensures.well_formed in
    let s = c.args.store.now in
    let e = c.args.extent in
    let os = c.args.model.now.objects in
    let is : c.add_objects.new.store ≡ objects_added s e os = c.in_ok-add_objects.ensures ∙ ap (objects_added s e) c.as_slice-objects.ensures in
    c.in_ok-place_objects.ensures
    ∙ (λ i. with_objects (is i) (put_objects (is i).metas (c.len-first.ensures i) (c.len-first.ensures i) (is i).objects (c.as_slice-objects.ensures i)))
    ∙ gives s e os c.requires.loadable well c.is_whole.ensures.typed c.is_whole.ensures.outside_itself c.requires.conforms

pub returns-clause-ids : goal.returns-clause-ids
returns-clause-ids c x = c.in_ok-tell_ids.ensures.told x ∙ (λ i. id_told (c.len-first.ensures i) (c.as_slice-objects.ensures i) x (id_in c.args.ids.now x))

pub returns-clause-table : goal.returns-clause-table
returns-clause-table c = c.in_ok-tell_ids.ensures.exact ∙ (λ i. all_told (c.len-first.ensures i) (c.as_slice-objects.ensures i) c.args.ids.now)

pub returns-clause-sound : goal.returns-clause-sound
returns-clause-sound c sound =
    let well = c.is_whole.ensures.well_formed in
    let s = c.args.store.now in
    let e = c.args.extent in
    let os = c.args.model.now.objects in
    let is : c.add_objects.new.store ≡ objects_added s e os = c.in_ok-add_objects.ensures ∙ ap (objects_added s e) c.as_slice-objects.ensures in
    subst Sound (sym (c.in_ok-place_objects.ensures
    ∙ (λ i. with_objects (is i) (put_objects (is i).metas (c.len-first.ensures i) (c.len-first.ensures i) (is i).objects (c.as_slice-objects.ensures i)))
    ∙ gives s e os c.requires.loadable well c.is_whole.ensures.typed c.is_whole.ensures.outside_itself c.requires.conforms))
    (stays_sound s e os c.requires.loadable well c.is_whole.ensures.typed c.is_whole.ensures.outside_itself c.requires.conforms sound)

pub returns-clause-stays : goal.returns-clause-stays
returns-clause-stays c = subst (StaysIn c.args.store.now) (sym (returns-clause-store c)) (load_leaves c.args.store.now c.args.extent c.args.model.now.objects).stays

pub returns-clause-others : goal.returns-clause-others
returns-clause-others c = subst (λ (t : Contents). MembersStay c.args.store.now t c.args.extent) (sym (returns-clause-store c)) (load_leaves c.args.store.now c.args.extent c.args.model.now.objects).others

pub returns-clause-told : goal.returns-clause-told
returns-clause-told c all = subst (λ (t : Contents). TellsAll t c.tell_ids.new.ids) (sym (returns-clause-store c))
    ((load_leaves c.args.store.now c.args.extent c.args.model.now.objects).tells c.args.ids.now c.tell_ids.new.ids (returns-clause-ids c) all)

pub returns-clause-no_other : goal.returns-clause-no_other
returns-clause-no_other c none_else = subst (λ (t : Contents). TellsNoOther t c.tell_ids.new.ids) (sym (returns-clause-store c))
    ((load_leaves c.args.store.now c.args.extent c.args.model.now.objects).no_other c.args.ids.now c.tell_ids.new.ids (returns-clause-ids c) none_else)

pub returns-clause-inputs : goal.returns-clause-inputs
returns-clause-inputs c = subst (InputsStay c.args.store.now) (sym (returns-clause-store c)) (load_leaves c.args.store.now c.args.extent c.args.model.now.objects).inputs
