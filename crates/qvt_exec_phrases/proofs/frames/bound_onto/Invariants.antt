use Rattle.std.proofs.Common.{◌≡◌, drop, map, reverse}
use Rattle.qvt_program_units.specs.Units.{params_of}
use Rattle.qvt_types_nodes.specs.Module.{typed_param_view}
use Rattle.qvt_exec_state.specs.Runs.{seen}
use Rattle.qvt_exec_phrases.specs.Frames.{bound_after}
use Rattle.qvt_exec_phrases.proofs.frames.bound_onto.Given as goal

abbrev pub invariant-loop-param : goal.invariant-loop-param
invariant-loop-param l =
    bound_after l.locals (params_of (map typed_param_view (drop l.param-index l.params)) l.types) (reverse l.left) l.place (seen l.state)
    ≡ bound_after l.fn.before (params_of (map typed_param_view l.params) l.fn.types) l.fn.args l.place (seen l.state)
