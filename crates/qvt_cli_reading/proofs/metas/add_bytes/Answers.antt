use Rattle.qvt_meta.specs.MetaOf.{meta_of}
use Rattle.qvt_metamodel.specs.declared.fault.MetaFault.TheVariants as meta
use Rattle.qvt_outcome.specs.declared.refusal.Refusal.TheVariants as refusal
use Rattle.qvt_work.specs.Metas.{metas_in, with_metamodel}
use Rattle.qvt_outcome.specs.Steps.{or_refused}
use Rattle.qvt_outcome.proofs.Refused.{stops_by}
use Rattle.qvt_cli_reading.proofs.metas.add_bytes.Goals as goal

pub returns-in-Err-clause-gives : goal.returns-in-Err-clause-gives
unfolding metas_in
returns-in-Err-clause-gives c = stops_by meta.NoMemory refusal.Metamodel c.args.name.now c.in-Err.why c.meta_stop.result (meta_of c.args.bytes.now) (λ d. or_refused refusal.Metamodels c.args.name.now (with_metamodel c.args.metas.now d)) c.meta_stop.ensures.stop c.in-Err.ensures
