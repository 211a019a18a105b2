use Rattle.std.proofs.Common.{◌∙◌, ap, sym, subst}
use Rattle.qvt_metamodel.specs.Metamodels.{Metamodels}
use Rattle.qvt_metamodel.specs.Joined.{FitTogether, joined}
use Rattle.qvt_metas.proofs.Rooms.{together, added_element}
use Rattle.qvt_metas.proofs.metas.Metas.with_meta.Goals as goal

pub with-requires : goal.with-requires
with-requires c = subst (FitTogether c.args.self.now) (sym c.alone.ensures) (together c.args.self.now c.args.meta.now c.requires)

pub returns-clause-element : goal.returns-clause-element
returns-clause-element c = ap (λ (x : Metamodels). x.element) (c.in_ok-with.ensures ∙ ap (joined c.args.self.now) c.alone.ensures) ∙ added_element c.args.self.now c.args.meta.now
