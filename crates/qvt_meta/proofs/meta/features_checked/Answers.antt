use Rattle.qvt_meta.proofs.Made.{lists_numbered}
use Rattle.qvt_meta.proofs.meta.features_checked.Goals as goal

pub same_feature-requires-clause-lists : goal.same_feature-requires-clause-lists
same_feature-requires-clause-lists c = lists_numbered c.args.meta c.args.numbers _ _ _ c.requires.numbers c.requires.tables
