-- The answer of a late entry, with a cost of 64 bits.
use Rattle.std.specs.Prelude.{◌≡◌, ℕ, ◌+◌, nat_lt, true, Option, Some, None}
use Rattle.qvt_run_rules.specs.Resolve as rule
use Rattle.qvt_exec_resolves.specs.Verdicts.{found_view}
use Rattle.qvt_exec_finish.specs.declared.answers.LateAnswer.{LateAnswer}

pub record GivesLateAnswer (a : rule.ResolveAnswer) (x : LateAnswer) : Type 0 where
  pub found : found_view x.found ≡ a.found
  pub cost : x.cost ≡ a.cost

-- the answer, or none where its cost is above the fuel, over what was spent before
abbrev pub IsLateAnswer : ℕ → ℕ → rule.ResolveAnswer → Option LateAnswer → Type 0
IsLateAnswer fuel spent a None = nat_lt fuel (spent + a.cost) ≡ true
IsLateAnswer fuel spent a (Some x) = GivesLateAnswer a x
