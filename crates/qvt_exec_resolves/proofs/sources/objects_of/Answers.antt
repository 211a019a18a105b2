use Rattle.std.proofs.Common.{◌∙◌}
use Rattle.qvt_exec_resolves.proofs.FoundObjects.{all_found}
use Rattle.qvt_exec_resolves.proofs.sources.objects_of.Goals as goal

pub returns : goal.returns
returns c = c.in_ok-objects.ensures ∙ all_found c.args.items.now
