-- Units that no call could tell apart, by their sorts.
use Rattle.std.specs.Prelude.{ℕ, ◌==◌, ◌&&◌, Bool, false, length, Option, Some, None, nat_lt}
use Rattle.std.specs.Str.{bytes_eq}
use Rattle.qvt_types_groups.specs.declared.signature.Signature.{Signature}
use Rattle.qvt_types_groups.specs.Numbers.{is_called, is_constructor}
use Rattle.qvt_types_groups.specs.Units.{same_context, same_class}

abbrev pub is_same_called : Bool → Signature → Signature → Bool
is_same_called maps u v = is_called maps v.sort && (bytes_eq u.name v.name && same_context u.context v.context)

abbrev pub is_same_constructor : Signature → Signature → Bool
is_same_constructor u v = is_constructor v.sort && same_class u.context v.context && (length u.params == length v.params)

abbrev pub is_before : ℕ → Option ℕ → Bool
is_before n None = false
is_before n (Some i) = nat_lt i n
