use Rattle.std.proofs.Common.{◌∙◌, false, sym, ap}
use Rattle.qvt_types_rules.specs.Seen.{seen}
use Rattle.qvt_types_steps.specs.Calls.{dot_call}
use Rattle.qvt_typing.specs.Calls.{called_behind}
use Rattle.qvt_typing.specs.Rules.{reads_operation}
use Rattle.qvt_types_walk_steps.proofs.Binds.{operation-called, unit-called}
use Rattle.qvt_types_walk_steps.proofs.calls.call_settled.Goals as goal

pub returns-then-reads_operation : goal.returns-then-reads_operation
returns-then-reads_operation c =
    operation-called (seen c.args.x.now) c.args.name.now c.args.types.now c.args.place c.args.source.now c.args.state.now c.in_ok-ruling.ruling c.stepped.result c.stepped.new.state
    (ap (λ n. reads_operation n c.args.source.now) (sym c.as_str.ensures) ∙ sym c.reads_operation.ensures ∙ c.if-reads_operation.true)
    (c.in_ok-ruling.ensures ∙ ap (λ m. dot_call m c.args.name.now c.args.source.now c.args.types.now) c.metas.ensures)
    c.stepped.ensures

pub returns : goal.returns
returns c =
    unit-called (seen c.args.x.now) c.args.name.now c.args.types.now c.args.place c.args.source.now c.args.state.now c.in_ok-called.called c.in_ok-ruling-2.ruling c.effect_of-effect.result c.stepped-2.result c.stepped-2.new.state
    (ap (λ n. reads_operation n c.args.source.now) (sym c.as_str.ensures) ∙ sym c.reads_operation.ensures ∙ c.if-reads_operation.false)
    (c.in_ok-called.ensures ∙ ap (λ n. called_behind (seen c.args.x.now).heads false false n c.args.source.now) c.as_str-2.ensures)
    c.in_ok-ruling-2.ensures c.effect_of-effect.ensures c.stepped-2.ensures
