use Rattle.std.proofs.Common.{◌∙◌, ap}
use Rattle.qvt_run_rules.specs.Locals.{place_in}
use Rattle.qvt_exec_state.specs.Runs.{seen}
use Rattle.qvt_exec_moves.proofs.Named.{by_place}
use Rattle.qvt_exec_moves.proofs.variables.set_variable.Goals as goal

pub returns-in-Some : goal.returns-in-Some
returns-in-Some c =
    by_place c.args.name.now c.args.value c.args.place c.in-Some.at (seen c.args.state.now) c.set_there.result c.set_there.new.state
    (c.in-Some.ensures ∙ ap (place_in c.args.name.now) c.as_slice.ensures) c.set_there.ensures
