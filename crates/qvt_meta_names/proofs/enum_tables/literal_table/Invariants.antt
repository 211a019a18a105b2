use Rattle.std.proofs.Common.{◌≡◌, ℕ, List, drop}
use Rattle.std.specs.Option.{option_or}
use Rattle.std.specs.Map.{lookup}
use Rattle.std.specs.Str.{bytes_eq}
use Rattle.qvt_meta_names.proofs.Tables.{first_at}
use Rattle.qvt_meta_names.proofs.enum_tables.literal_table.Given as goal

abbrev pub invariant-loop-number : goal.invariant-loop-number
invariant-loop-number l =
    (name : List ℕ) → option_or (lookup (bytes_eq name) l.table) (first_at (bytes_eq name) l.number (drop l.number l.literals))
    ≡ first_at (bytes_eq name) 0 l.literals
