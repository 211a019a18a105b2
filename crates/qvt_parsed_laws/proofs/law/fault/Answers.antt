use Rattle.qvt_parsed_laws.proofs.Faults.{fault_is_first}
use Rattle.qvt_parsed_laws.proofs.law.fault.Goals as goal

pub returns : goal.returns
returns c = fault_is_first
