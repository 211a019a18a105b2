use Rattle.qvt_store_laws.proofs.ReadOnly.{read_only_stays}
use Rattle.qvt_store_laws.proofs.law.read_only_stays.Goals as goal

pub returns : goal.returns
returns c = read_only_stays
