-- Values that are no collections (OCL 2.4, 7.5.10).
use Rattle.std.specs.Prelude.{Bool, not}
use Rattle.qvt_value.specs.Make.{is_collection}
use Rattle.qvt_value.specs.declared.value.Value.{Value}

abbrev pub is_single_value : Value → Bool
is_single_value v = not (is_collection v)
