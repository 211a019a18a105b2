use Rattle.std.proofs.Common.{ℕ, List, subst}
use Rattle.qvt_base.specs.Outside.{IsRead}
use Rattle.qvt_base.specs.declared.outside.ReadAnswer.TheVariants as read
use Rattle.qvt_outcome.proofs.Chained.{found_read, missing_read, too_large_read, failed_read}
use Rattle.qvt_outcome.proofs.fetch.fetch.Goals as goal

pub returns-in-Found-clause-follows : goal.returns-in-Found-clause-follows
returns-in-Found-clause-follows g c = found_read c.args.name.now c.args.limit (g.F.Files.seen c.args.files.now) (g.F.Files.seen c.read.new.self) c.in-Found.bytes (subst (λ (n : List ℕ). IsRead (g.F.Files.seen c.args.files.now) n c.args.limit (read.Found c.in-Found.bytes) (g.F.Files.seen c.read.new.self)) c.as_str.ensures c.in-Found.ensures)

pub returns-in-Missing-clause-follows : goal.returns-in-Missing-clause-follows
returns-in-Missing-clause-follows g c = missing_read c.args.name.now c.args.limit (g.F.Files.seen c.args.files.now) (g.F.Files.seen c.read.new.self) c.refused.result (subst (λ (n : List ℕ). IsRead (g.F.Files.seen c.args.files.now) n c.args.limit read.Missing (g.F.Files.seen c.read.new.self)) c.as_str.ensures c.in-Missing.ensures) c.refused.ensures.refused

pub returns-in-TooLarge-clause-follows : goal.returns-in-TooLarge-clause-follows
returns-in-TooLarge-clause-follows g c = too_large_read c.args.name.now c.args.limit (g.F.Files.seen c.args.files.now) (g.F.Files.seen c.read.new.self) c.refused-in-TooLarge.result (subst (λ (n : List ℕ). IsRead (g.F.Files.seen c.args.files.now) n c.args.limit read.TooLarge (g.F.Files.seen c.read.new.self)) c.as_str.ensures c.in-TooLarge.ensures) c.refused-in-TooLarge.ensures.refused

pub returns-in-Failed-clause-follows : goal.returns-in-Failed-clause-follows
returns-in-Failed-clause-follows g c = failed_read c.args.name.now c.args.limit (g.F.Files.seen c.args.files.now) (g.F.Files.seen c.read.new.self) c.read_fault.result (subst (λ (n : List ℕ). IsRead (g.F.Files.seen c.args.files.now) n c.args.limit read.Failed (g.F.Files.seen c.read.new.self)) c.as_str.ensures c.in-Failed.ensures) c.read_fault.ensures
