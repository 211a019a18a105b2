-- The plan was carried out, or the work ended early and that was told.
use Rattle.std.proofs.Common.{ap}
use Rattle.std.specs.Prelude.{is_ok}
use Rattle.qvt_cli.specs.Commands.{command_view}
use Rattle.qvt_work.specs.Work.{work_of}
use Rattle.qvt_outcome.proofs.Settle.{carried_after, finished_after}
use Rattle.qvt_outcome.proofs.Ended.{carried_fails, carried_complete, carried_no_usage, finished_fails, finished_complete, finished_no_usage}
use Rattle.qvt_cli.proofs.Conforming.{none_written}
use Rattle.qvt_cli.proofs.top.work_and_report.Goals as goal

pub returns-in-Ok-clause-answer : goal.returns-in-Ok-clause-answer
returns-in-Ok-clause-answer g c = carried_after c.in-Ok.plan (work_of (command_view c.args.command)) (g.F.Files.seen c.args.files.now) (g.F.Files.seen c.perform.new.files) (g.F.Files.seen c.carry_out.new.files)
    (g.S.Sink.seen c.args.out.now) (g.S.Sink.seen c.carry_out.new.out) c.carry_out.result c.in-Ok.ensures.follows c.carry_out.ensures

pub returns-in-Ok-clause-complete : goal.returns-in-Ok-clause-complete
returns-in-Ok-clause-complete g c = carried_complete c.in-Ok.plan (work_of (command_view c.args.command)) (g.F.Files.seen c.args.files.now) (g.F.Files.seen c.perform.new.files) (g.F.Files.seen c.carry_out.new.files)
    (g.S.Sink.seen c.args.out.now) (g.S.Sink.seen c.carry_out.new.out) c.carry_out.result c.in-Ok.ensures.follows c.carry_out.ensures

pub returns-in-Ok-clause-no_usage : goal.returns-in-Ok-clause-no_usage
returns-in-Ok-clause-no_usage g c = carried_no_usage c.in-Ok.plan (g.F.Files.seen c.perform.new.files) (g.F.Files.seen c.carry_out.new.files)
    (g.S.Sink.seen c.args.out.now) (g.S.Sink.seen c.carry_out.new.out) c.carry_out.result c.carry_out.ensures

pub returns-in-Ok-clause-fails : goal.returns-in-Ok-clause-fails
returns-in-Ok-clause-fails g c = carried_fails c.in-Ok.plan (work_of (command_view c.args.command)) (g.F.Files.seen c.args.files.now) (g.F.Files.seen c.perform.new.files) (g.F.Files.seen c.carry_out.new.files)
    (g.S.Sink.seen c.args.out.now) (g.S.Sink.seen c.carry_out.new.out) c.carry_out.result c.in-Ok.ensures.follows c.carry_out.ensures

pub returns-in-Err-clause-answer : goal.returns-in-Err-clause-answer
returns-in-Err-clause-answer g c = finished_after c.in-Err.stop (work_of (command_view c.args.command)) (g.F.Files.seen c.args.files.now) (g.F.Files.seen c.perform.new.files)
    (g.S.Sink.seen c.args.out.now) (g.S.Sink.seen c.finish.new.out) c.finish.result c.in-Err.ensures.follows c.finish.ensures

pub returns-in-Err-clause-complete : goal.returns-in-Err-clause-complete
returns-in-Err-clause-complete g c = finished_complete c.in-Err.stop (work_of (command_view c.args.command)) (g.F.Files.seen c.args.files.now) (g.F.Files.seen c.perform.new.files)
    (g.S.Sink.seen c.args.out.now) (g.S.Sink.seen c.finish.new.out) c.finish.result c.in-Err.ensures.follows c.finish.ensures

pub returns-in-Err-clause-no_usage : goal.returns-in-Err-clause-no_usage
returns-in-Err-clause-no_usage g c = finished_no_usage c.in-Err.stop (g.S.Sink.seen c.args.out.now) (g.S.Sink.seen c.finish.new.out) c.finish.result c.finish.ensures

pub returns-in-Err-clause-fails : goal.returns-in-Err-clause-fails
returns-in-Err-clause-fails g c = finished_fails c.in-Err.stop (work_of (command_view c.args.command)) (g.F.Files.seen c.args.files.now) (g.F.Files.seen c.perform.new.files)
    (g.S.Sink.seen c.args.out.now) (g.S.Sink.seen c.finish.new.out) c.finish.result c.in-Err.ensures.follows c.finish.ensures

pub returns-in-Ok-clause-given : goal.returns-in-Ok-clause-given
returns-in-Ok-clause-given g c = λ held is written. ap is_ok (c.in-Ok.ensures.follows.gives held is)

pub returns-in-Err-clause-given : goal.returns-in-Err-clause-given
returns-in-Err-clause-given g c = λ held is written. absurd (none_written c.in-Err.stop (work_of (command_view c.args.command)) (g.F.Files.seen c.args.files.now) (g.F.Files.seen c.perform.new.files)
    (g.S.Sink.seen c.args.out.now) (g.S.Sink.seen c.finish.new.out) c.finish.result c.in-Err.ensures.follows c.finish.ensures held is written)

pub returns-in-Ok-clause-conform : goal.returns-in-Ok-clause-conform
returns-in-Ok-clause-conform g c = λ held is written. c.in-Ok.ensures.conform held is

pub returns-in-Err-clause-conform : goal.returns-in-Err-clause-conform
returns-in-Err-clause-conform g c = λ held is written. absurd (none_written c.in-Err.stop (work_of (command_view c.args.command)) (g.F.Files.seen c.args.files.now) (g.F.Files.seen c.perform.new.files)
    (g.S.Sink.seen c.args.out.now) (g.S.Sink.seen c.finish.new.out) c.finish.result c.in-Err.ensures.follows c.finish.ensures held is written)
