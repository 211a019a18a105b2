use Rattle.std.proofs.Common.{ap}
use Rattle.qvt_metamodel.specs.declared.fault.MetasFault.TheVariants as metas
use Rattle.qvt_outcome.specs.declared.refusal.Refusal.TheVariants as refusal
use Rattle.qvt_outcome.specs.Steps.{or_refused}
use Rattle.qvt_work.specs.Metas.{with_metamodel}
use Rattle.qvt_cli_reading.proofs.Faults.{same_metamodel, some_metamodel, named_metamodel}
use Rattle.qvt_outcome.proofs.Refused.{stops_at}
use Rattle.qvt_cli_reading.proofs.metas.add_metamodel.Goals as goal

pub returns-in-Err-clause-gives : goal.returns-in-Err-clause-gives
returns-in-Err-clause-gives c = stops_at metas.NoMemory refusal.Metamodels c.args.name.now c.in-Err.why c.metas_stop.result (or_refused refusal.Metamodels c.args.name.now (with_metamodel c.args.metas.now c.args.meta)) c.metas_stop.ensures.stop
    (λ other. ap (or_refused refusal.Metamodels c.args.name.now) (same_metamodel c.args.metas.now c.args.meta c.in-Err.why (c.in-Err.ensures.same other).0 (c.in-Err.ensures.same other).1))

pub returns-in-Ok-clause-some : goal.returns-in-Ok-clause-some
returns-in-Ok-clause-some c = some_metamodel c.args.metas.now c.add.new.self c.args.meta c.in-Ok.ensures.ok

pub returns-in-Ok-clause-named : goal.returns-in-Ok-clause-named
returns-in-Ok-clause-named c named all = named_metamodel c.args.metas.now c.add.new.self c.args.meta c.in-Ok.ensures.ok named all
