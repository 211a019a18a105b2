use Rattle.qvt_ocl.proofs.Answered.{list_in}
use Rattle.qvt_ocl.proofs.apply.told_of_owned.Goals as goal

pub on_list-requires : goal.on_list-requires
on_list-requires c = list_in c.args.source c.in-Ok.kind c.in-Ok.items c.requires c.in-Ok.ensures
