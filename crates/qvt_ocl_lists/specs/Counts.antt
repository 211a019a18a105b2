-- How often values are left, as a table of them.
use Rattle.std.specs.Prelude.{ℕ, List, map, unwrap_or}
use Rattle.std.specs.Map.{lookup}
use denote.Ref.{Bor}
use Rattle.qvt_value.specs.declared.value.Value.{Value}
use Rattle.qvt_ocl_words.specs.Lists.{same}

-- the table by the values that its keys point to
abbrev pub shown : List (Bor Value × ℕ) → List (Value × ℕ)
shown es = map (λ e. (e.0.now, e.1)) es

-- how often the value is left
abbrev pub left : List (Value × ℕ) → Value → ℕ
left es x = unwrap_or (lookup (same x) es) 0
