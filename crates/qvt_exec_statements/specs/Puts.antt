-- Assignments to slots (QVT 1.3, 8.2.2.11 AssignExp).
use Rattle.std.specs.Prelude.{ℕ, Bool}
use Rattle.qvt_base.specs.declared.numbers.Place.{Place}
use Rattle.qvt_run_data.specs.declared.late.LateWrite.{LateWrite}
use Rattle.qvt_run_rules.specs.State.{Does, ◌>>=◌}
use Rattle.qvt_run_rules.specs.Store.{put}
use Rattle.qvt_types_nodes.specs.declared.tree.TypedExpr.{TypedExpr}
use Rattle.qvt_exec_phrases.specs.Means.{Scene, valid_of}

-- a value, which is not invalid, for slot f of an object
abbrev pub put_valid : Scene → ℕ → ℕ → Bool → TypedExpr → Place → Does LateWrite (Unit {0})
put_valid x o f adds e at = valid_of x e >>= (λ v. put o f adds v at)
