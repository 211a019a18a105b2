use Rattle.std.proofs.Common.{◌≡◌, subst, Option}
use Rattle.std.specs.Prelude.{IfOk}
use Rattle.qvt_run_data.specs.declared.request.RequestForm.{RequestForm}
use Rattle.qvt_types_nodes.specs.View.{typed_resolve_view}
use Rattle.qvt_exec_phrases.specs.Accepts.{ProgramTerm}
use Rattle.qvt_exec_resolves.specs.Program.{form_of}
use Rattle.qvt_exec_invocations.proofs.resolves.written.Goals as goal

pub returns : goal.returns
returns g c =
    subst (λ (p : ProgramTerm). IfOk c.form_of.result (λ (form : Option RequestForm). form ≡ form_of p (typed_resolve_view c.args.node.now)))
    c.program.ensures c.form_of.ensures
