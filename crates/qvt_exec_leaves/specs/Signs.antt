-- Signs before an operand (OCL 2.4, 7.4.7).
use Rattle.std.specs.Prelude.{ℕ, zero, suc, List, [], ◌∷◌, Option}
use Rattle.qvt_value.specs.declared.value.Value.{Value}
use Rattle.qvt_run_data.specs.declared.late.LateWrite.{LateWrite}
use Rattle.qvt_run_rules.specs.Cost.{count, spend_of}
use Rattle.qvt_run_rules.specs.State.{Does, ◌>>=◌, ◌>>◌, pure, found}
use Rattle.qvt_run_rules.specs.Expressions as rule
use Rattle.qvt_types_nodes.specs.declared.types.TypedSign.{TypedSign}

-- the signs of an operand on its value, the inner one first
abbrev pub signed_by : List TypedSign → Value → Does LateWrite Value
signed_by [] v = pure v
signed_by (s ∷ ss) v = signed_by ss v >>= (λ w. found (rule.signed {E = LateWrite} count s.op s.place w) s.place)

-- so many single units
abbrev pub ticks_of : Option ℕ → ℕ → Does LateWrite (Unit {0})
ticks_of limit zero = pure tt
ticks_of limit (suc n) = spend_of limit 1 >> ticks_of limit n
