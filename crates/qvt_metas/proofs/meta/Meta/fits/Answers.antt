use Rattle.std.proofs.Common.{◌≡◌, ◌∙◌, ◌<◌, ◌^◌, List, length, None, ap, subst, arith}
use Rattle.qvt_metamodel.specs.declared.info.EnumInfo.{EnumInfo}
use Rattle.qvt_metamodel.specs.Metamodels.{Metamodels}
use Rattle.qvt_metamodel.specs.Named.{metamodel_at}
use Rattle.qvt_metamodel.specs.Joined.{FitTogether}
use Rattle.qvt_metamodel.specs.Added.{numbered}
use Rattle.qvt_metamodel.proofs.Empty.{no_metamodels}
use Rattle.qvt_metas.proofs.Rooms.{room_apart, first_enums}
use Rattle.qvt_metas.proofs.meta.Meta.fits.Goals as goal

pub returns : goal.returns
returns c =
    let n : Metamodels = record { metamodels = c.alone.inside.metamodels.items; classes = c.alone.inside.classes.items; features = c.alone.inside.features.items; element = None } in
    let same : n ≡ numbered c.args.self.now = c.alone.view_is ∙ c.self.invariant.numbers ∙ ap numbered c.self.view_is in
    let few = c.alone.invariant.well_formed in
    let room : FitTogether no_metamodels n = record { metamodels = omega (arith, few.few_metamodels); classes = omega (arith, few.few_classes); features = omega (arith, few.few_features) } in
    room_apart no_metamodels c.args.self.now
    (subst (FitTogether no_metamodels) same room)
    (subst (λ (es : List EnumInfo). length es < 2 ^ 32) (ap (λ (x : Metamodels). (metamodel_at x 0).enums) same ∙ first_enums c.args.self.now) (few.few_enumerations 0))
