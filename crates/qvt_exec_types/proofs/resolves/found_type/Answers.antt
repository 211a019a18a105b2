use Rattle.std.proofs.Common.{option_map}
use Rattle.qvt_base.specs.declared.numbers.MappingNo.{MappingNo}
use Rattle.qvt_types_nodes.specs.View.{typed_boxed_filter_view}
use Rattle.qvt_types_program.specs.Program.{program_view}
use Rattle.qvt_meaning.specs.Program.{within_named}
use Rattle.qvt_exec_types.proofs.Formed.{form_answered}
use Rattle.qvt_exec_types.proofs.resolves.found_type.Goals as goal

pub returns : goal.returns
returns c =
    form_answered (program_view c.args.program.now) c.args.word (option_map (λ (m : MappingNo). m.0) c.within_named-mapping.result) (within_named c.args.within.now)
    (typed_boxed_filter_view c.args.filter.now) c.class_for-class.result c.in_ok-ruling.ruling c.answer_of.result
    c.within_named-mapping.ensures c.class_for-class.ensures c.in_ok-ruling.ensures c.answer_of.ensures
