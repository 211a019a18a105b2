use Rattle.std.proofs.Common.{◌∙◌, replicate, ap}
use Rattle.qvt_counts.proofs.Counted.{none_at}
use Rattle.qvt_counts.proofs.counts.no_counts.Goals as goal

pub returns-in-Ok-clause-none : goal.returns-in-Ok-clause-none
returns-in-Ok-clause-none c = none_at c.args.words c.from_vec.result (c.from_vec.ensures ∙ c.in-Ok.ensures.items_if_clones_equal (λ y h. h) ∙ ap (replicate c.args.words) c.no_counter.ensures)
