use Rattle.std.proofs.Common.{◌≡◌, ◌==◌, ℕ, take}
use Rattle.std.specs.List.{list_any}
use Rattle.qvt_exec_resolves.specs.Numbers.{has}
use Rattle.qvt_exec_resolves.proofs.candidates.numbers_of.Given as goal

abbrev pub invariant-loop-mapping : goal.invariant-loop-mapping
invariant-loop-mapping l = (m : ℕ) → has l.set m ≡ list_any (λ n. n.0 == m) (take l.mapping-index l.mappings)
