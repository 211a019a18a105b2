use Rattle.std.proofs.Common.{◌∙◌, ap}
use Rattle.std.specs.Option.{option_copied}
use Rattle.qvt_run_rules.specs.Locals.{place_in}
use Rattle.qvt_exec_state.specs.Runs.{seen}
use Rattle.qvt_exec_moves.proofs.Named.{added_by_place}
use Rattle.qvt_exec_moves.proofs.assignments.add_variable.Goals as goal

pub returns-in-Some : goal.returns-in-Some
returns-in-Some c =
    added_by_place c.args.name.now (option_copied c.args.of) c.args.value c.args.place c.in-Some.at (seen c.args.state.now) c.add_there.result c.add_there.new.state
    (c.in-Some.ensures ∙ ap (place_in c.args.name.now) c.as_slice.ensures) c.add_there.ensures
