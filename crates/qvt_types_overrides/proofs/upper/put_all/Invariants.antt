use Rattle.std.proofs.Common.{◌≡◌, ℕ, ◌==◌, ◌||◌, drop}
use Rattle.std.specs.List.{list_any}
use Rattle.qvt_metas.specs.NumberSets.{has_number}
use Rattle.qvt_types_overrides.proofs.upper.put_all.Given as goal

abbrev pub invariant-loop-class : goal.invariant-loop-class
invariant-loop-class l = (c : ℕ) → (has_number l.set c || list_any (λ s. s.0 == c) (drop l.class-index l.supers)) ≡ (has_number l.initial.set c || list_any (λ s. s.0 == c) l.supers)
