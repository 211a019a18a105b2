use Rattle.std.proofs.Common.{◌≡◌, ◌∙◌, ◌+◌, ◌++◌, ◌∷◌, List, length, None, Some, ap, sym, subst, arith}
use Rattle.qvt_metamodel.specs.declared.info.ClassInfo.{ClassInfo}
use Rattle.qvt_metamodel.specs.Metamodels.{Metamodels}
use Rattle.qvt_metamodel.specs.Kept.{IsKept}
use Rattle.qvt_metamodel.specs.Extended.{extended, AreGiven, HasRoomFor, element_class, given_classes, given_features}
use Rattle.qvt_metamodel.proofs.Bools.{ap2}
use Rattle.qvt_metamodel.specs.Lists.{all_lists}
use Rattle.qvt_meta_tables.specs.Search.{AreLive, IsAcyclic}
use Rattle.qvt_meta_tables.specs.Tables.{of_classes, AreTables}
use Rattle.qvt_metas.proofs.Extends.{W, kept, live_superclass, is_extended, class_total}
use Rattle.qvt_metas.proofs.GivenOrder.{whole_acyclic}
use Rattle.qvt_metas.proofs.metas.Metas.with_given.Goals as goal

pub overflow_cast-len : goal.overflow_cast-len
overflow_cast-len c =
    let m : Metamodels = record { metamodels = c.self.inside.metamodels.items; classes = c.self.inside.classes.items; features = c.self.inside.features.items; element = c.self.inside.element } in
    let alone : m.element ≡ None = ap (λ (x : Metamodels). x.element) c.self.view_is ∙ c.requires.element in
    let given : AreGiven m c.args.classes.now = subst (λ (x : Metamodels). AreGiven x c.args.classes.now) (sym c.self.view_is) c.requires.given in
    let room : HasRoomFor m c.args.classes.now = subst (λ (x : Metamodels). HasRoomFor x c.args.classes.now) (sym c.self.view_is) c.requires.room in
    let metamodel : c.len-metamodel.result ≡ length m.metamodels = omega (arith, c.len-metamodel.ensures) in
    let first : c.len-first.result ≡ length m.features = omega (arith, c.len-first.ensures) in
    let classes : c.in_ok-infos.infos.items ≡ (W m c.args.classes.now).classes =
    c.in_ok-infos.ensures ∙ ap2 (λ a b. a ++ b) c.as_slice.ensures.value (c.in_ok-given.ensures ∙ ap2 (λ k f. element_class k ∷ given_classes k f c.args.classes.now) metamodel first) in
    omega (arith, c.len.ensures, ap length classes, class_total m c.args.classes.now, room.classes)

pub tables_of-requires-clause-live : goal.tables_of-requires-clause-live
tables_of-requires-clause-live c =
    let m : Metamodels = record { metamodels = c.self.inside.metamodels.items; classes = c.self.inside.classes.items; features = c.self.inside.features.items; element = c.self.inside.element } in
    let alone : m.element ≡ None = ap (λ (x : Metamodels). x.element) c.self.view_is ∙ c.requires.element in
    let given : AreGiven m c.args.classes.now = subst (λ (x : Metamodels). AreGiven x c.args.classes.now) (sym c.self.view_is) c.requires.given in
    let room : HasRoomFor m c.args.classes.now = subst (λ (x : Metamodels). HasRoomFor x c.args.classes.now) (sym c.self.view_is) c.requires.room in
    let metamodel : c.len-metamodel.result ≡ length m.metamodels = omega (arith, c.len-metamodel.ensures) in
    let first : c.len-first.result ≡ length m.features = omega (arith, c.len-first.ensures) in
    let classes : c.in_ok-infos.infos.items ≡ (W m c.args.classes.now).classes =
    c.in_ok-infos.ensures ∙ ap2 (λ a b. a ++ b) c.as_slice.ensures.value (c.in_ok-given.ensures ∙ ap2 (λ k f. element_class k ∷ given_classes k f c.args.classes.now) metamodel first) in
    subst AreLive (sym (c.as_slice-2.ensures.value ∙ classes)) (live_superclass m c.args.classes.now _ c.self.invariant.kept.well_formed c.self.invariant.kept.ranked alone given c.have_texts.ensures)

pub tables_of-requires-clause-acyclic : goal.tables_of-requires-clause-acyclic
tables_of-requires-clause-acyclic c =
    let m : Metamodels = record { metamodels = c.self.inside.metamodels.items; classes = c.self.inside.classes.items; features = c.self.inside.features.items; element = c.self.inside.element } in
    let alone : m.element ≡ None = ap (λ (x : Metamodels). x.element) c.self.view_is ∙ c.requires.element in
    let given : AreGiven m c.args.classes.now = subst (λ (x : Metamodels). AreGiven x c.args.classes.now) (sym c.self.view_is) c.requires.given in
    let room : HasRoomFor m c.args.classes.now = subst (λ (x : Metamodels). HasRoomFor x c.args.classes.now) (sym c.self.view_is) c.requires.room in
    let metamodel : c.len-metamodel.result ≡ length m.metamodels = omega (arith, c.len-metamodel.ensures) in
    let first : c.len-first.result ≡ length m.features = omega (arith, c.len-first.ensures) in
    let classes : c.in_ok-infos.infos.items ≡ (W m c.args.classes.now).classes =
    c.in_ok-infos.ensures ∙ ap2 (λ a b. a ++ b) c.as_slice.ensures.value (c.in_ok-given.ensures ∙ ap2 (λ k f. element_class k ∷ given_classes k f c.args.classes.now) metamodel first) in
    subst IsAcyclic (sym (c.as_slice-2.ensures.value ∙ classes))
    (whole_acyclic m c.args.classes.now c.self.invariant.kept.well_formed given.supers given.acyclic)

pub whole-requires : goal.whole-requires
whole-requires c =
    let m : Metamodels = record { metamodels = c.self.inside.metamodels.items; classes = c.self.inside.classes.items; features = c.self.inside.features.items; element = c.self.inside.element } in
    let alone : m.element ≡ None = ap (λ (x : Metamodels). x.element) c.self.view_is ∙ c.requires.element in
    let given : AreGiven m c.args.classes.now = subst (λ (x : Metamodels). AreGiven x c.args.classes.now) (sym c.self.view_is) c.requires.given in
    let room : HasRoomFor m c.args.classes.now = subst (λ (x : Metamodels). HasRoomFor x c.args.classes.now) (sym c.self.view_is) c.requires.room in
    let metamodel : c.len-metamodel.result ≡ length m.metamodels = omega (arith, c.len-metamodel.ensures) in
    let first : c.len-first.result ≡ length m.features = omega (arith, c.len-first.ensures) in
    let classes : c.in_ok-infos.infos.items ≡ (W m c.args.classes.now).classes =
    c.in_ok-infos.ensures ∙ ap2 (λ a b. a ++ b) c.as_slice.ensures.value (c.in_ok-given.ensures ∙ ap2 (λ k f. element_class k ∷ given_classes k f c.args.classes.now) metamodel first) in
    let element : c.len-element.result ≡ length m.classes = omega (arith, c.len-element.ensures) in
    let metamodels : c.in_ok-joined.field-0.items ≡ (W m c.args.classes.now).metamodels = c.in_ok-joined.ensures ∙ ap2 (λ a b. a ++ b) c.as_slice-3.ensures.value c.in_ok-one_unnamed.ensures in
    let features : c.in_ok-joined-2.field-0.items ≡ (W m c.args.classes.now).features =
    c.in_ok-joined-2.ensures ∙ ap2 (λ a b. a ++ b) c.as_slice-4.ensures.value (c.in_ok-features.ensures ∙ ap (λ n. given_features (n + 1) c.args.classes.now) element) in
    let same : record { metamodels = c.in_ok-joined.field-0.items; classes = c.in_ok-infos.infos.items; features = c.in_ok-joined-2.field-0.items; element = Some (record { 0 = c.len-element.result }) } ≡ W m c.args.classes.now =
    λ i. record { metamodels = metamodels i; classes = classes i; features = features i; element = Some (record { 0 = element i }) } in
    subst (λ (w : Metamodels). IsKept w (all_lists c.in_ok-tables.tables.lists) c.in_ok-tables.tables.rows.items c.in_ok-tables.tables.ranks.items) (sym same)
    (kept m c.args.classes.now _ c.self.invariant.kept.well_formed c.self.invariant.kept.ranked alone given c.have_texts.ensures room _ _ _
    (subst (λ (ks : List ClassInfo). AreTables (of_classes ks) (all_lists c.in_ok-tables.tables.lists) c.in_ok-tables.tables.rows.items c.in_ok-tables.tables.ranks.items) (c.as_slice-2.ensures.value ∙ classes) c.in_ok-tables.ensures))

pub returns : goal.returns
returns c =
    let m : Metamodels = record { metamodels = c.self.inside.metamodels.items; classes = c.self.inside.classes.items; features = c.self.inside.features.items; element = c.self.inside.element } in
    let alone : m.element ≡ None = ap (λ (x : Metamodels). x.element) c.self.view_is ∙ c.requires.element in
    let given : AreGiven m c.args.classes.now = subst (λ (x : Metamodels). AreGiven x c.args.classes.now) (sym c.self.view_is) c.requires.given in
    let room : HasRoomFor m c.args.classes.now = subst (λ (x : Metamodels). HasRoomFor x c.args.classes.now) (sym c.self.view_is) c.requires.room in
    let metamodel : c.len-metamodel.result ≡ length m.metamodels = omega (arith, c.len-metamodel.ensures) in
    let first : c.len-first.result ≡ length m.features = omega (arith, c.len-first.ensures) in
    let classes : c.in_ok-infos.infos.items ≡ (W m c.args.classes.now).classes =
    c.in_ok-infos.ensures ∙ ap2 (λ a b. a ++ b) c.as_slice.ensures.value (c.in_ok-given.ensures ∙ ap2 (λ k f. element_class k ∷ given_classes k f c.args.classes.now) metamodel first) in
    let element : c.len-element.result ≡ length m.classes = omega (arith, c.len-element.ensures) in
    let metamodels : c.in_ok-joined.field-0.items ≡ (W m c.args.classes.now).metamodels = c.in_ok-joined.ensures ∙ ap2 (λ a b. a ++ b) c.as_slice-3.ensures.value c.in_ok-one_unnamed.ensures in
    let features : c.in_ok-joined-2.field-0.items ≡ (W m c.args.classes.now).features =
    c.in_ok-joined-2.ensures ∙ ap2 (λ a b. a ++ b) c.as_slice-4.ensures.value (c.in_ok-features.ensures ∙ ap (λ n. given_features (n + 1) c.args.classes.now) element) in
    let same : record { metamodels = c.in_ok-joined.field-0.items; classes = c.in_ok-infos.infos.items; features = c.in_ok-joined-2.field-0.items; element = Some (record { 0 = c.len-element.result }) } ≡ W m c.args.classes.now =
    λ i. record { metamodels = metamodels i; classes = classes i; features = features i; element = Some (record { 0 = element i }) } in
    c.in_ok-next.ensures ∙ same ∙ sym (is_extended m c.args.classes.now) ∙ ap (λ (x : Metamodels). extended x c.args.classes.now) c.self.view_is
