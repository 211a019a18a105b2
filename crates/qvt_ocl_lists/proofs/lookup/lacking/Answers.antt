use Rattle.std.proofs.Common.{◌∙◌}
use Rattle.qvt_ocl_lists.proofs.ItemLists.{lacking_same}
use Rattle.qvt_ocl_lists.proofs.lookup.lacking.Goals as goal

pub returns : goal.returns
returns c = c.in_ok-kept.ensures ∙ lacking_same c.in_ok-known.known c.args.values.now c.args.items.now c.in_ok-known.ensures
