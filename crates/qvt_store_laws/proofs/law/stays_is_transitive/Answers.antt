use Rattle.qvt_store_laws.proofs.Stays.{stays_is_transitive}
use Rattle.qvt_store_laws.proofs.law.stays_is_transitive.Goals as goal

pub returns : goal.returns
returns c = stays_is_transitive
