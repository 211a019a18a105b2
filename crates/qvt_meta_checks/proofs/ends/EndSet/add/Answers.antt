use Rattle.std.proofs.Common.{◌∙◌, ◌||◌, List, ap}
use Rattle.std.specs.List.{list_any}
use Rattle.qvt_meta_checks.specs.declared.ends.OppositeEnd.{OppositeEnd}
use Rattle.qvt_meta_checks.specs.Ends.{same_end}
use Rattle.qvt_meta_checks.proofs.Paired.{end_joined}
use Rattle.qvt_meta_checks.proofs.ends.EndSet.add.Goals as goal

pub returns : goal.returns
returns c = λ e.
    end_joined c.self.inside.ends.keys _ c.args.end c.in-Ok.ensures.updates.0 e
    ∙ ap (λ (es : List OppositeEnd). list_any (same_end e) es || same_end e c.args.end) c.self.view_is
