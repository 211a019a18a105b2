use Rattle.std.proofs.Common.{◌∙◌, sym, ap}
use Rattle.qvt_tree_types.specs.Module.{module_view}
use Rattle.qvt_types_program.specs.Seen.{heads_seen}
use Rattle.qvt_types_program.specs.Accepts.{least}
use Rattle.qvt_types_program.specs.Program.{program_view}
use Rattle.qvt_types.proofs.Accepted.{accepted_as, refused_as, judged_by, numbered_so}
use Rattle.qvt_types.proofs.accepting.accept.Goals as goal

pub program-requires : goal.program-requires
program-requires c = numbered_so c.args.metas.now (module_view c.args.module.now) c.in_ok-declarations.declarations c.in_ok-declarations.ensures.heads

pub returns-in-Some-clause-err : goal.returns-in-Some-clause-err
returns-in-Some-clause-err c = λ other.
    refused_as c.args.metas.now (module_view c.args.module.now) c.in_ok-declarations.declarations c.in_ok-state.state c.in-Some.refusal c.fault_of.result
    c.in_ok-declarations.ensures.heads
    (judged_by c.args.metas.now (module_view c.args.module.now) c.in_ok-declarations.declarations (heads_seen c.lent.result) c.in_ok-state.state c.new-told.result c.read_heads.new.log
    c.lent.ensures c.new-told.ensures c.in_ok-declarations.ensures.told c.in_ok-state.ensures)
    (ap least (sym c.as_slice.ensures) ∙ sym c.in-Some.ensures)
    c.fault_of.ensures

pub returns-clause-ok : goal.returns-clause-ok
returns-clause-ok c =
    accepted_as c.args.metas.now (module_view c.args.module.now) c.in_ok-declarations.declarations c.in_ok-state.state c.replace-notes.result (program_view c.in_ok-program.program)
    c.requires
    c.in_ok-declarations.ensures.heads
    (judged_by c.args.metas.now (module_view c.args.module.now) c.in_ok-declarations.declarations (heads_seen c.lent.result) c.in_ok-state.state c.new-told.result c.read_heads.new.log
    c.lent.ensures c.new-told.ensures c.in_ok-declarations.ensures.told c.in_ok-state.ensures)
    (ap least (sym c.as_slice.ensures) ∙ sym c.in_default.ensures)
    c.replace-notes.ensures.value
    c.in_ok-program.ensures
