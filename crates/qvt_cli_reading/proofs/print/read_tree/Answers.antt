use Rattle.std.proofs.Common.{ℕ, List, subst}
use Rattle.qvt_outcome.specs.Steps.{GivesOrStops}
use Rattle.qvt_tree_types.specs.Module.{module_view}
use Rattle.qvt_outcome.specs.Chain.{step, read_step}
use Rattle.qvt_work.specs.Printing.{tree_read}
use Rattle.qvt_work.specs.Source.{tree_in}
use Rattle.qvt_outcome.proofs.Chained.{stopped, stepped}
use Rattle.qvt_cli_reading.proofs.print.read_tree.Goals as goal

pub returns-in-Err : goal.returns-in-Err
unfolding tree_read
returns-in-Err g c = stopped (λ (b : List ℕ). b) module_view (read_step c.args.name.now 262144) (λ (bytes : List ℕ). step (tree_in c.args.name.now bytes)) (g.F.Files.seen c.args.files.now) (g.F.Files.seen c.fetch.new.files) c.in-Err.stop c.in-Err.ensures.follows

pub returns-in-Ok : goal.returns-in-Ok
unfolding tree_read
returns-in-Ok g c = stepped (λ (b : List ℕ). b) module_view (read_step c.args.name.now 262144) (λ (bytes : List ℕ). tree_in c.args.name.now bytes) (g.F.Files.seen c.args.files.now) (g.F.Files.seen c.fetch.new.files) c.in-Ok.bytes c.tree_in.result c.in-Ok.ensures.follows (subst (λ (bytes : List ℕ). GivesOrStops module_view c.tree_in.result (tree_in c.args.name.now bytes)) c.as_slice.ensures c.tree_in.ensures.gives) c.tree_in.ensures.no_reads
