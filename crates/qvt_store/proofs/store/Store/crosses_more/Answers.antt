use Rattle.std.proofs.Common.{◌∙◌, sym}
use Rattle.qvt_store_laws.proofs.Own.{crosses-more}
use Rattle.qvt_store.proofs.store.Store.crosses_more.Goals as goal

pub returns-then-holds_own : goal.returns-then-holds_own
returns-then-holds_own c = c.crosses.ensures ∙ sym (crosses-more c.args.self.now c.args.object.0 c.args.feature.0 c.args.values.now (c.holds_own.ensures c.if-holds_own.true))
