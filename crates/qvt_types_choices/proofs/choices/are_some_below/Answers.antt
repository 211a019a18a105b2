use Rattle.qvt_metas.specs.Descends.{descends}
use Rattle.qvt_types_choices.proofs.Sets.{some_in_both}
use Rattle.qvt_types_choices.proofs.choices.are_some_below.Goals as goal

pub returns : goal.returns
returns c =
    some_in_both c.args.metas.now (λ d. descends c.args.metas.now d c.args.class.0) c.args.marked.now c.set_below.result.now c.overlap.result c.set_below.ensures c.overlap.ensures
