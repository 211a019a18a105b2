use Rattle.std.proofs.Common.{◌≡◌, drop}
use Rattle.std.specs.Map.{lookup}
use Rattle.std.specs.Option.{option_or}
use Rattle.qvt_meta_names.proofs.Tables.{first_at}
use Rattle.qvt_types_groups.specs.declared.class_table.ClassKey.{ClassKey}
use Rattle.qvt_types_groups.specs.Keys.{same_key, is_key}
use Rattle.qvt_types_groups.proofs.class_table.ClassTable.of.Given as goal

abbrev pub invariant-loop-place : goal.invariant-loop-place
invariant-loop-place l = (k : ClassKey) → option_or (lookup (same_key k) l.table) (first_at (is_key k) l.place (drop l.place l.keys)) ≡ first_at (is_key k) 0 l.keys
