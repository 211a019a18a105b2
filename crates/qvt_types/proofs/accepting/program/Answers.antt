use Rattle.qvt_tree_types.specs.Module.{module_view}
use Rattle.qvt_types_nodes.specs.Module.{typed_module_view}
use Rattle.qvt_types.proofs.Accepted.{tables_so}
use Rattle.qvt_types.proofs.accepting.program.Goals as goal

pub new-requires-clause-tables : goal.new-requires-clause-tables
new-requires-clause-tables c =
    tables_so (module_view c.args.module.now) c.args.notes (typed_module_view c.in_ok-typed.typed) c.as_slice.result.now c.args.declarations c.in_ok-tables.tables
    c.in_ok-tables.ensures c.as_slice.ensures (c.notes_leave_the_tree.ensures (module_view c.args.module.now) c.args.notes) c.in_ok-typed.ensures
