use Rattle.std.proofs.Common.{sym}
use Rattle.qvt_types_choices.proofs.ByClass.{above_nowhere}
use Rattle.qvt_types_choices.proofs.class_choices.is_element.Goals as goal

pub returns-then-class-nowhere : goal.returns-then-class-nowhere
returns-then-class-nowhere c =
    above_nowhere c.args.metas.now c.ancestors_are_least.ensures c.class_count-nowhere.result c.args.class.0 c.descends.result c.class_count-nowhere.ensures.count
    (λ same. c.if-class-nowhere.true (sym same)) c.descends.ensures
