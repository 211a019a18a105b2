-- The items of the field are the list itself.
use Rattle.std.proofs.Common.{◌∙◌, ap}
use Rattle.std.specs.List.{dedup}
use Rattle.std.proofs.lemmas.List.Filters.{dedup_is}
use Rattle.qvt_base.proofs.seq.Seq.dedup.Goals as goal

pub returns : goal.returns
returns g c = dedup_is g.T.PartialEq.eq _ _ c.dedup.ensures.filtered ∙ ap (dedup g.T.PartialEq.eq) c.self.view_is
