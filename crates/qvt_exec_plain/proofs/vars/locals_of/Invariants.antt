use Rattle.std.proofs.Common.{◌≡◌, map, take}
use Rattle.qvt_run_rules.specs.Locals.{local_of}
use Rattle.qvt_exec_plain.proofs.vars.locals_of.Given as goal

abbrev pub invariant-loop-var : goal.invariant-loop-var
invariant-loop-var l = l.locals ≡ map local_of (take l.var-index l.vars)
