use Rattle.std.proofs.Common.{◌≡◌}
use Rattle.qvt_exec_quiet.proofs.Walks.{exprs_from, links_from, steps_from}
use Rattle.qvt_exec_quiet.proofs.quiet.+quiet.Given as goal

abbrev pub invariant-are_quiet-loop-node : goal.invariant-are_quiet-loop-node
invariant-are_quiet-loop-node l = exprs_from l.nodes l.node-index ≡ exprs_from l.nodes 0

abbrev pub invariant-are_quiet_links-loop-link : goal.invariant-are_quiet_links-loop-link
invariant-are_quiet_links-loop-link l = links_from l.links l.link-index ≡ links_from l.links 0

abbrev pub invariant-are_quiet_steps-loop-step : goal.invariant-are_quiet_steps-loop-step
invariant-are_quiet_steps-loop-step l = steps_from l.steps l.step-index ≡ steps_from l.steps 0
