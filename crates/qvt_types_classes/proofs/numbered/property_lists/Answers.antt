use Rattle.qvt_types_classes.proofs.Lists.{lists_are}
use Rattle.qvt_types_classes.proofs.numbered.property_lists.Goals as goal

pub returns-clause-lists : goal.returns-clause-lists
returns-clause-lists c = lists_are c.args.classes.now _ _ _ c.in_ok-tables.ensures

pub returns-clause-ranked : goal.returns-clause-ranked
returns-clause-ranked c = (_, c.in_ok-tables.ensures.ranked)
