use Rattle.std.proofs.Common.{◌∙◌, sym}
use Rattle.qvt_types_groups.proofs.Keys.{named_at, named_nowhere}
use Rattle.qvt_types_groups.proofs.unit_names.UnitNames.named.Goals as goal

pub returns-in-None : goal.returns-in-None
returns-in-None c =
    sym (named_nowhere c.called-called.result.now.groups c.args.maps c.args.class.0 c.args.name.now c.args.self.now (c.called-called.ensures.groups c.args.name.now) (sym c.place.ensures ∙ c.in-None.is))

pub returns-in-Some : goal.returns-in-Some
returns-in-Some c =
    c.find.ensures ∙ c.called-called.ensures.named _
    ∙ named_at c.called-called.result.now.groups.names c.args.name.now c.in-Some.place (sym c.place.ensures ∙ c.in-Some.is) c.args.maps c.args.class.0 c.args.self.now
