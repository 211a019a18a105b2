use Rattle.qvt_exec_leaves.proofs.Args.{no_class}
use Rattle.qvt_exec_leaves.proofs.nodes.class_argument.Goals as goal

pub returns-in-len2-up : goal.returns-in-len2-up
returns-in-len2-up c = no_class c.args.args.now c.in-len2-up.len_at_least
