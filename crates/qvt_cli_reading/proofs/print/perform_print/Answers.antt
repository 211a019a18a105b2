use Rattle.qvt_tree_types.specs.Module.{ModuleTerm, module_view}
use Rattle.qvt_printer.specs.PrintText.{print_text}
use Rattle.std.proofs.Common.{[]}
use Rattle.qvt_outcome.specs.Chain.{step}
use Rattle.qvt_outcome.specs.Outcome.{done}
use Rattle.qvt_outcome.specs.Plans.{outcome_of}
use Rattle.qvt_work.specs.Printing.{print_of, tree_read, printed}
use Rattle.qvt_outcome.proofs.Chained.{stopped, stepped}
use Rattle.qvt_outcome.proofs.Refused.{planned, planned_quiet}
use Rattle.qvt_cli_reading.proofs.print.perform_print.Goals as goal

pub returns-in-Err-clause-follows : goal.returns-in-Err-clause-follows
unfolding print_of
returns-in-Err-clause-follows g c = stopped module_view outcome_of (tree_read c.args.name.now) (λ (tree : ModuleTerm). step (printed tree)) (g.F.Files.seen c.args.files.now) (g.F.Files.seen c.read_tree.new.files) c.in-Err.stop c.in-Err.ensures

pub returns-in-Ok-clause-follows : goal.returns-in-Ok-clause-follows
unfolding print_of
returns-in-Ok-clause-follows g c = stepped module_view outcome_of (tree_read c.args.name.now) printed (g.F.Files.seen c.args.files.now) (g.F.Files.seen c.read_tree.new.files) c.in-Ok.tree c.plan_of.result c.in-Ok.ensures
    (planned c.plan_of.result (done [] (print_text (module_view c.in-Ok.tree))) c.plan_of.ensures.plan c.plan_of.ensures.memory)
    (planned_quiet c.plan_of.result c.plan_of.ensures.memory)
