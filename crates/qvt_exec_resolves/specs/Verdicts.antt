-- Verdicts on candidates, and what they lead to, as the rules have them (QVT 1.3, 8.2.1.22).
use Rattle.std.specs.Prelude.{ℕ, List}
use Rattle.qvt_base.specs.declared.numbers.Oid.{Oid}
use Rattle.qvt_run_rules.specs.Resolve as rule
use Rattle.qvt_exec_resolves.specs.declared.verdicts.Verdict.{Verdict}
use Rattle.qvt_exec_resolves.specs.declared.verdicts.Verdict.TheVariants.{Passes, Fails, Invalid, Stops}
use Rattle.qvt_exec_resolves.specs.declared.verdicts.Found.{Found}
use Rattle.qvt_exec_resolves.specs.declared.verdicts.Found.TheVariants.{Objects, Undefined, Stopped}
use Rattle.qvt_exec_resolves.specs.declared.verdicts.Sifted.{Sifted}
use Rattle.qvt_exec_resolves.specs.declared.verdicts.Sifted.TheVariants.{GoesOn, Ends}

abbrev pub verdict_view : Verdict → rule.ConditionVerdict
verdict_view Passes = rule.Passes
verdict_view Fails = rule.Fails
verdict_view (Invalid r p) = rule.Invalid r p
verdict_view (Stops e) = rule.Stops e

abbrev pub found_view : Found → rule.FoundOrEnded
found_view (Objects os) = rule.Objects os
found_view (Undefined r p) = rule.Undefined r p
found_view (Stopped e) = rule.Stopped e

-- the answer at this cost, where `on` goes on with the rest
abbrev pub answer_by : Sifted → ℕ → (List Oid → rule.ResolveAnswer) → rule.ResolveAnswer
answer_by (GoesOn os) cost on = on os
answer_by (Ends f) cost on = record { found = found_view f; cost = cost }
