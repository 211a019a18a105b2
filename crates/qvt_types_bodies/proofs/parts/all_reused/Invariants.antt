use Rattle.std.proofs.Common.{◌≡◌, drop}
use Rattle.qvt_types_context.specs.Seen.{seen}
use Rattle.qvt_types_context.specs.Units.{all_paths, reused}
use Rattle.qvt_types_bodies.proofs.parts.all_reused.Given as goal

abbrev pub invariant-loop-path : goal.invariant-loop-path
invariant-loop-path l = all_paths (reused (seen l.x)) (drop l.path-index l.list) l.state ≡ all_paths (reused (seen l.x)) l.list l.initial.state
