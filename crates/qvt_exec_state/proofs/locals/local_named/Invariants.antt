use Rattle.std.proofs.Common.{◌≡◌, drop}
use Rattle.qvt_run_rules.specs.Locals.{local_named}
use Rattle.qvt_exec_state.proofs.locals.local_named.Given as goal

abbrev pub invariant-loop-local : goal.invariant-loop-local
invariant-loop-local l = local_named l.name l.locals ≡ local_named l.name (drop l.local-index l.locals)
