use Rattle.std.proofs.Common.{◌∙◌, ◌≤◌, sym, length, drop, arith}
use Rattle.std.proofs.lemmas.List.{at_drop_all}
use Rattle.qvt_types_steps.specs.UnitCalls.{arguments_conform}
use Rattle.qvt_types_steps.proofs.NoArguments.{none_left}
use Rattle.qvt_types_steps.proofs.units.arguments_conform.Goals as goal

pub returns : goal.returns
returns c =
    let m = c.args.metas.now in
    let rest = drop c.loop-i.i c.args.parameters.now in
    let past : length c.args.arguments.now ≤ c.loop-i.i = omega (arith, c.loop-i-test.false) in
    sym (c.loop-i.invariant ∙ at_drop_all (arguments_conform m rest) c.args.arguments.now c.loop-i.i past ∙ none_left m rest)
