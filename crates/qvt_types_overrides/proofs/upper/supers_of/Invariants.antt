use Rattle.std.proofs.Common.{◌≡◌, ℕ, ◌||◌, drop}
use Rattle.qvt_metas.specs.NumberSets.{has_number}
use Rattle.qvt_types_overrides.specs.Upper.{is_super}
use Rattle.qvt_types_overrides.proofs.upper.supers_of.Given as goal

abbrev pub invariant-loop-class : goal.invariant-loop-class
invariant-loop-class l = (c : ℕ) → (has_number l.set c || is_super (drop l.class-index l.classes) c) ≡ is_super l.classes c
