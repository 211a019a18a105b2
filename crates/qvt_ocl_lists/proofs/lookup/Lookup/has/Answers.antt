use Rattle.std.proofs.Common.{◌∙◌, ap}
use Rattle.qvt_ocl_words.specs.Lists.{has}
use Rattle.qvt_ocl_lists.proofs.ItemLists.{held}
use Rattle.qvt_ocl_lists.proofs.lookup.Lookup.has.Goals as goal

pub returns : goal.returns
returns c = c.contains.ensures ∙ held c.args.value.now _ ∙ ap (λ l. has l c.args.value.now) c.self.view_is
