use Rattle.std.proofs.Common.{◌∙◌, ◌+◌, ◌<◌, ◌≤◌, ◌^◌, ◌≡◌, List, length, None, ap, sym, subst, arith}
use Rattle.std.proofs.lemmas.Bool.{leb-true, le-leb}
use Rattle.qvt_metamodel.specs.declared.info.EnumInfo.{EnumInfo}
use Rattle.qvt_metamodel.specs.Metamodels.{Metamodels}
use Rattle.qvt_metamodel.specs.Named.{metamodel_at}
use Rattle.qvt_metamodel.specs.Joined.{FitTogether}
use Rattle.qvt_metamodel.specs.declared.declared.MetaData.{MetaData}
use Rattle.qvt_metamodel.specs.Added.{numbered, HasRoom}
use Rattle.qvt_metas.proofs.Rooms.{together, room_apart, first_enums}
use Rattle.qvt_metas.proofs.metas.Metas.has_room.Goals as goal

-- with room for both the parts fit together as well
fits_inside : (m n sm : Metamodels) (d : MetaData) → m ≡ sm → n ≡ numbered d → HasRoom sm d → FitTogether m n
fits_inside m n sm d em en room = subst (λ (x : Metamodels). FitTogether x n) (sym em) (subst (FitTogether sm) (sym en) (together sm d room))

pub returns-clause-room : goal.returns-clause-room
returns-clause-room c = λ h.
    let few_features : c.len-5.result + c.len-6.result ≤ 4294967295 = leb-true (c.len-5.result + c.len-6.result) 4294967295 h in
    let m : Metamodels = record { metamodels = c.self.inside.metamodels.items; classes = c.self.inside.classes.items; features = c.self.inside.features.items; element = c.self.inside.element } in
    let n : Metamodels = record { metamodels = c.others.inside.metamodels.items; classes = c.others.inside.classes.items; features = c.others.inside.features.items; element = None } in
    let room : FitTogether m n = record {
      metamodels = omega (arith, c.if-metamodels.false, c.len.ensures, c.len-2.ensures);
      classes = omega (arith, c.if-classes.false, c.len-3.ensures, c.len-4.ensures);
      features = omega (arith, few_features, c.len-5.ensures, c.len-6.ensures);
    } in
    let few : length c.args.meta.now.enums < 2 ^ 32 =
    subst (λ (es : List EnumInfo). length es < 2 ^ 32) (ap (λ (x : Metamodels). (metamodel_at x 0).enums) (c.others.view_is ∙ c.alone-others.ensures) ∙ first_enums c.args.meta.now) (c.others.invariant.well_formed.few_enumerations 0) in
    room_apart c.args.self.now c.args.meta.now
    (subst (λ (x : Metamodels). FitTogether x (numbered c.args.meta.now)) c.self.view_is (subst (FitTogether m) (c.others.view_is ∙ c.alone-others.ensures) room)) few

pub returns-then-metamodels-clause-full : goal.returns-then-metamodels-clause-full
returns-then-metamodels-clause-full c = λ room.
    let m : Metamodels = record { metamodels = c.self.inside.metamodels.items; classes = c.self.inside.classes.items; features = c.self.inside.features.items; element = c.self.inside.element } in
    let n : Metamodels = record { metamodels = c.others.inside.metamodels.items; classes = c.others.inside.classes.items; features = c.others.inside.features.items; element = None } in
    let fit : FitTogether m n = fits_inside m n c.args.self.now c.args.meta.now c.self.view_is (c.others.view_is ∙ c.alone-others.ensures) room in
    absurd (omega (arith, fit.metamodels, c.if-metamodels.true, c.len.ensures, c.len-2.ensures))

pub returns-then-classes-clause-full : goal.returns-then-classes-clause-full
returns-then-classes-clause-full c = λ room.
    let m : Metamodels = record { metamodels = c.self.inside.metamodels.items; classes = c.self.inside.classes.items; features = c.self.inside.features.items; element = c.self.inside.element } in
    let n : Metamodels = record { metamodels = c.others.inside.metamodels.items; classes = c.others.inside.classes.items; features = c.others.inside.features.items; element = None } in
    let fit : FitTogether m n = fits_inside m n c.args.self.now c.args.meta.now c.self.view_is (c.others.view_is ∙ c.alone-others.ensures) room in
    absurd (omega (arith, fit.classes, c.if-classes.true, c.len-3.ensures, c.len-4.ensures))

pub returns-clause-full : goal.returns-clause-full
returns-clause-full c = λ room.
    let m : Metamodels = record { metamodels = c.self.inside.metamodels.items; classes = c.self.inside.classes.items; features = c.self.inside.features.items; element = c.self.inside.element } in
    let n : Metamodels = record { metamodels = c.others.inside.metamodels.items; classes = c.others.inside.classes.items; features = c.others.inside.features.items; element = None } in
    let fit : FitTogether m n = fits_inside m n c.args.self.now c.args.meta.now c.self.view_is (c.others.view_is ∙ c.alone-others.ensures) room in
    le-leb (c.len-5.result + c.len-6.result) 4294967295 (omega (arith, fit.features, c.len-5.ensures, c.len-6.ensures))
