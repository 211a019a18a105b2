use Rattle.std.proofs.Common.{◌∙◌, sym, ap}
use Rattle.qvt_ocl.proofs.Placed.{tells, searched}
use Rattle.qvt_ocl.proofs.in_order.stands.Goals as goal

pub returns-in-Ok : goal.returns-in-Ok
returns-in-Ok c = sym (ap tells c.in-Ok.is) ∙ searched c.args.items.now c.args.item.now c.binary_search.result c.requires c.binary_search.ensures.bound c.binary_search.ensures.position

pub returns-in-Err : goal.returns-in-Err
returns-in-Err c = sym (ap tells c.in-Err.is) ∙ searched c.args.items.now c.args.item.now c.binary_search.result c.requires c.binary_search.ensures.bound c.binary_search.ensures.position
