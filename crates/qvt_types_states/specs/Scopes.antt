-- What is in scope (QVT 1.3, 8.2.1; OCL 2.4, 7.4.3 and 7.6): named variables, and the implicit sources.
use Rattle.std.specs.Prelude.{ℕ, Bool, List, take, length, map, Option, ◌++◌, ◌∷◌, []}
use Rattle.std.specs.Global.{Global}
use Rattle.std.specs.Prelude.{String, string_bytes}
use Rattle.std.specs.Map.{lookup}
use Rattle.std.specs.Option.{is_some}
use Rattle.std.specs.Str.{bytes_eq}
use Rattle.qvt_types_data.specs.declared.variable.Variable.{Variable}
use Rattle.qvt_types_states.specs.declared.scope.Known.{Known}

pub record ScopeTerm : Type 0 where
  -- by their names, in the order in which they were declared
  pub named : List (List ℕ × Known)
  -- the implicit sources, the nearest last
  pub sources : List Variable

abbrev pub by_bytes : List (String Global × Known) → List (List ℕ × Known)
by_bytes es = map (λ e. (string_bytes e.0, e.1)) es

abbrev pub found : List ℕ → ScopeTerm → Option Known
found name s = lookup (bytes_eq name) s.named

abbrev pub is_known : List ℕ → ScopeTerm → Bool
is_known name s = is_some (found name s)

abbrev pub with_named : List ℕ → Known → ScopeTerm → ScopeTerm
with_named name k s = record { named = s.named ++ (name, k) ∷ []; sources = s.sources }

abbrev pub with_source : Variable → ScopeTerm → ScopeTerm
with_source v s = record { named = s.named; sources = s.sources ++ v ∷ [] }

-- what was in scope before
abbrev pub back_to : ScopeTerm → ScopeTerm → ScopeTerm
back_to before s = record { named = take (length before.named) s.named; sources = take (length before.sources) s.sources }
