-- The words are no command, or those of a command whose work was done and told.
use Rattle.std.proofs.Common.{◌∙◌, ap}
use Rattle.qvt_cli.specs.Commands.{command_view}
use Rattle.qvt_work.specs.Conforming.{ModelsConform}
use Rattle.qvt_work.specs.Fuel.{HasExactCost}
use Rattle.qvt_work.specs.Recorded.{HasOneRecordEach}
use Rattle.qvt_work.specs.Words.{command_of}
use Rattle.qvt_work.proofs.Asked.{none_asked, conform_asked, records_asked, cost_asked}
use Rattle.qvt_cli.proofs.top.qvto.Goals as goal

pub returns-in-None-clause-conform : goal.returns-in-None-clause-conform
returns-in-None-clause-conform g c = λ held is written. none_asked c.args.words.now held ModelsConform (c.in-None.ensures ∙ ap command_of c.as_slice.ensures)

pub returns-in-None-clause-records : goal.returns-in-None-clause-records
returns-in-None-clause-records g c = λ held is written. none_asked c.args.words.now held HasOneRecordEach (c.in-None.ensures ∙ ap command_of c.as_slice.ensures)

pub returns-in-None-clause-cost : goal.returns-in-None-clause-cost
returns-in-None-clause-cost g c = λ held is written. none_asked c.args.words.now held (HasExactCost held) (c.in-None.ensures ∙ ap command_of c.as_slice.ensures)

pub returns-in-Some-clause-conform : goal.returns-in-Some-clause-conform
returns-in-Some-clause-conform g c = λ held is written. conform_asked c.args.words.now (command_view c.in-Some.command) held (c.in-Some.ensures ∙ ap command_of c.as_slice.ensures)
    (c.work_and_report.ensures.given held is written) (c.work_and_report.ensures.conform held is written)

pub returns-in-Some-clause-records : goal.returns-in-Some-clause-records
returns-in-Some-clause-records g c = λ held is written. records_asked c.args.words.now (command_view c.in-Some.command) held (c.in-Some.ensures ∙ ap command_of c.as_slice.ensures)
    (c.work_and_report.ensures.given held is written)

pub returns-in-Some-clause-cost : goal.returns-in-Some-clause-cost
returns-in-Some-clause-cost g c = λ held is written. cost_asked c.args.words.now (command_view c.in-Some.command) held (c.in-Some.ensures ∙ ap command_of c.as_slice.ensures)
    (c.work_and_report.ensures.given held is written)
