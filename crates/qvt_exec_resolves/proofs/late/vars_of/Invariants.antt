use Rattle.std.proofs.Common.{◌≡◌, map, take}
use Rattle.qvt_run_rules.specs.Locals.{var_of}
use Rattle.qvt_exec_resolves.proofs.late.vars_of.Given as goal

abbrev pub invariant-loop-local : goal.invariant-loop-local
invariant-loop-local l = l.vars ≡ map var_of (take l.local-index l.locals)
