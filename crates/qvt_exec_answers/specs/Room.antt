-- Costs that are held to the fuel, and answers with them.
use Rattle.std.specs.Prelude.{◌≡◌, ℕ, ◌+◌, ◌^◌, ◌-◌, min, nat_lt, Bool, true, Option, Some, None}
use Rattle.qvt_value.specs.declared.value.Value.{Value}
use Rattle.qvt_run_data.specs.declared.late.LateWrite.{LateWrite}
use Rattle.qvt_run_rules.specs.Cost.{spend_of}
use Rattle.qvt_run_rules.specs.Resolve as rule
use Rattle.qvt_run_rules.specs.State.{Does, ◌>>◌}
use Rattle.qvt_exec_resolves.specs.Verdicts.{found_view}
use Rattle.qvt_exec_answers.specs.declared.sifting.Sum.{Sum}

-- a cost beyond 64 bits is told as the greatest number of 64 bits
abbrev pub told : ℕ → ℕ
told n = min n (2 ^ 64 - 1)

-- the sum, or none where it is above the fuel, over what was spent before
abbrev pub IsSum : ℕ → ℕ → ℕ → Option ℕ → Type 0
IsSum fuel spent n None = nat_lt fuel (spent + n) ≡ true
IsSum fuel spent n (Some m) = m ≡ n

pub record GivesAnswer (a : rule.ResolveAnswer) (s : Sum) : Type 0 where
  pub found : found_view s.found ≡ a.found
  pub cost : s.cost ≡ a.cost

-- the answer, or none where its cost is above the fuel
abbrev pub IsAnswer : ℕ → ℕ → rule.ResolveAnswer → Option Sum → Type 0
IsAnswer fuel spent a None = nat_lt fuel (spent + a.cost) ≡ true
IsAnswer fuel spent a (Some s) = GivesAnswer a s

-- so much cost, and then the value
abbrev pub charged_of : ℕ → Bool → ℕ → rule.FoundOrEnded → Does LateWrite Value
charged_of fuel one n f = spend_of (Some fuel) n >> rule.answer_value one f
