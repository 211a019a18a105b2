use Rattle.std.proofs.Common.{ap}
use Rattle.qvt_job.specs.Job.{job_of}
use Rattle.qvt_work.specs.Run.{job_in}
use Rattle.qvt_job.specs.declared.job.JobFault.TheVariants as fault
use Rattle.qvt_outcome.specs.Steps.{or_refused}
use Rattle.qvt_outcome.specs.declared.refusal.Refusal.TheVariants as refusal
use Rattle.qvt_outcome.proofs.Refused.{stops_at}
use Rattle.qvt_cli_reading.proofs.job.job_in.Goals as goal

pub returns-in-Err-clause-gives : goal.returns-in-Err-clause-gives
unfolding job_in
returns-in-Err-clause-gives c = stops_at fault.NoMemory refusal.Job c.args.name.now c.in-Err.why c.job_stop.result (or_refused refusal.Job c.args.name.now (job_of c.args.bytes.now)) c.job_stop.ensures.stop
    (λ other. ap (or_refused refusal.Job c.args.name.now) (c.in-Err.ensures other))
