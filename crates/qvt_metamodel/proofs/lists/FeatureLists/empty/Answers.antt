use Rattle.std.proofs.Common.{◌∙◌, map}
use Rattle.qvt_metamodel.specs.Lists.{front_of}
use Rattle.qvt_metamodel.proofs.Fronts.{empty_lists}
use Rattle.qvt_metamodel.proofs.lists.FeatureLists.empty.Goals as goal

pub returns : goal.returns
returns c = (λ i. map (front_of (c.in_ok-one_line.ensures i)) (c.in_ok-empty_fronts.ensures i)) ∙ empty_lists c.args.count
