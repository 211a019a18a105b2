use Rattle.std.proofs.Common.{◌∙◌, ap, sym, arith}
use Rattle.qvt_metamodel.specs.Metamodels.{Metamodels}
use Rattle.qvt_metamodel.specs.Named.{class_named}
use Rattle.qvt_metas.proofs.ClassNames.{no_class}
use Rattle.qvt_metas.proofs.metas.Metas.class.Goals as goal

pub returns-then-at-len : goal.returns-then-at-len
returns-then-at-len c =
    sym (no_class _ c.args.metamodel c.args.name.now c.self.invariant.kept.well_formed (omega (arith, c.if-at-len.true, c.len.ensures, c.self.invariant.each)))
    ∙ ap (λ (m : Metamodels). class_named m c.args.metamodel c.args.name.now) c.self.view_is
