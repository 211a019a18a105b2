use Rattle.std.proofs.Common.{◌∙◌, ap}
use Rattle.qvt_run_rules.specs.Expressions.{selected}
use Rattle.qvt_store.specs.Contents.{Contents}
use Rattle.qvt_exec_state.specs.Runs.{seen}
use Rattle.qvt_exec_leaves.proofs.Over.{class_selected}
use Rattle.qvt_exec_leaves.proofs.steps.select_class.Goals as goal

pub returns-in_ok-kept-in-Ok : goal.returns-in_ok-kept-in-Ok
returns-in_ok-kept-in-Ok c =
    class_selected c.args.limit c.args.exact c.args.class c.args.place c.args.value c.in-Ok.kind c.in-Ok.items c.in_ok-kept-in-Ok.kept c.in_ok-tick.field-0 (seen c.args.state.now) c.found.result c.tick.new.state
    c.in-Ok.ensures c.in_ok-tick.ensures (c.in_ok-kept-in-Ok.ensures ∙ ap (λ (store : Contents). selected store c.args.exact c.args.class c.args.place c.in-Ok.kind c.in-Ok.items) c.as_store.ensures) c.found.ensures
