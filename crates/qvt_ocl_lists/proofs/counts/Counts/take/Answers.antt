use Rattle.std.proofs.Common.{◌∙◌, sym}
use Rattle.qvt_ocl_lists.proofs.CountTables.{none_taken, some_taken}
use Rattle.qvt_ocl_lists.proofs.counts.Counts.take.Goals as goal

pub returns-then-n-eq0-clause-less : goal.returns-then-n-eq0-clause-less
returns-then-n-eq0-clause-less c = none_taken c.args.self.now c.args.value.now (sym c.of-n.ensures ∙ c.if-n-eq0.true)

pub returns-clause-less : goal.returns-clause-less
returns-clause-less c = some_taken c.args.self.now c.set.new.self c.args.value.now c.of-n.result c.of-n.ensures c.in_ok-set.ensures
