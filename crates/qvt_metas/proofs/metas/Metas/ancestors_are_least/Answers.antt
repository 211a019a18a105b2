use Rattle.qvt_metamodel.proofs.Ancestors.{exact}
use Rattle.qvt_metas.proofs.metas.Metas.ancestors_are_least.Goals as goal

pub returns : goal.returns
returns c = exact c.args.self.now
