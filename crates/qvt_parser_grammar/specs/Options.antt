use Rattle.std.specs.Prelude.{Option, Some, None}

abbrev pub option_view : {X Y : Type 0} → (X → Y) → Option X → Option Y
option_view v None = None
option_view v (Some x) = Some (v x)
