use Rattle.qvt_cli_reading.proofs.Sources.{no_text, tree_of_bytes}
use Rattle.qvt_cli_reading.proofs.source.tree_in.Goals as goal

pub returns-in-Err-clause-gives : goal.returns-in-Err-clause-gives
returns-in-Err-clause-gives c = no_text c.args.name.now c.args.bytes.now c.refused.result c.in-Err.ensures.cases.0 c.refused.ensures.refused

pub returns-in-Ok-clause-gives : goal.returns-in-Ok-clause-gives
returns-in-Ok-clause-gives c = tree_of_bytes c.args.name.now c.args.bytes.now c.in-Ok.text.now c.tree_of.result c.in-Ok.ensures.cases.1 c.in-Ok.ensures.cases.0 c.tree_of.ensures.gives
