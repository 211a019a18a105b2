use Rattle.qvt_tree_types.specs.Module.{module_view}
use Rattle.qvt_typing.specs.Accepts.{accepts}
use Rattle.qvt_work.specs.Typing.{typed_in}
use Rattle.qvt_cli_reading.proofs.Typings.{typing_stops}
use Rattle.qvt_cli_reading.proofs.typing.typed_in.Goals as goal

pub returns-in-Err-clause-gives : goal.returns-in-Err-clause-gives
unfolding typed_in
returns-in-Err-clause-gives c = typing_stops c.args.file.now c.in-Err.fault c.typing_stop.result (accepts c.args.metas.now (module_view c.args.tree.now)) c.typing_stop.ensures.stop c.in-Err.ensures.err
