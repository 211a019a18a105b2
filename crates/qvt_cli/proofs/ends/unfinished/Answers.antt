use Rattle.qvt_cli.proofs.Ending.{ended_by}
use Rattle.qvt_cli.proofs.ends.unfinished.Goals as goal

pub returns-in-Ends-clause-stops : goal.returns-in-Ends-clause-stops
returns-in-Ends-clause-stops c = λ p ids r comes.
    ended_by c.args.job.now p ids r c.args.why c.in-Ends.end c.stopped_by.result c.in-Ends.is comes (c.stopped_by.ensures.stops p ids)
