use Rattle.std.proofs.Common.{map}
use Rattle.qvt_types_program.specs.Seen.{heads_seen}
use Rattle.qvt_types_nodes.specs.View.{typed_expr_view, typed_exprs_of}
use Rattle.qvt_types_program.specs.Program.{program_view}
use Rattle.qvt_meaning.specs.Nodes.{types_of}
use Rattle.qvt_exec_types.proofs.Asked.{unit_answered}
use Rattle.qvt_exec_types.proofs.steps.unit_type.Goals as goal

pub returns : goal.returns
returns c =
    unit_answered (program_view c.args.program.now) (heads_seen c.heads-heads.result) c.args.name.now c.as_str.result.now c.args.source.now
    (types_of (typed_exprs_of (map typed_expr_view c.args.args.now))) c.in_ok-types.types c.in_ok-called.called c.in_ok-ruling.ruling c.answer_of.result
    c.heads-heads.ensures c.as_str.ensures c.in_ok-called.ensures c.in_ok-types.ensures c.in_ok-ruling.ensures c.answer_of.ensures
