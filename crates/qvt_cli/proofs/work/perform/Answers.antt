use Rattle.std.proofs.Common.{sym, subst}
use Rattle.std.specs.Prelude.{IfOk}
use Rattle.qvt_cli.specs.Commands.{command_view}
use Rattle.qvt_work.specs.Conforming.{CommandConforms}
use Rattle.qvt_cli.specs.declared.words.Command.{Command}
use Rattle.qvt_cli.proofs.work.perform.Goals as goal

pub returns-in-Run-clause-conform : goal.returns-in-Run-clause-conform
returns-in-Run-clause-conform g c = λ held is.
    subst (λ (command : Command). IfOk c.perform_run.result (λ plan. CommandConforms (command_view command) held)) (sym c.in-Run.is) (c.perform_run.ensures.conform held is)
