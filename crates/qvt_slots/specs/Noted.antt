-- Values that are noted one after the other.
use Rattle.std.specs.Prelude.{◌≡◌, ◌||◌, List, [], ◌∷◌, ◌++◌, if◌then◌else◌}
use Rattle.std.specs.List.{list_any}
use Rattle.qvt_value.specs.declared.value.Value.{Value}
use Rattle.qvt_value.specs.Kept.{is_same}
use Rattle.qvt_value.specs.Order.{order_of}

-- after v is noted, a value has an equal one among those noted where it had one, or where it equals v
abbrev pub NotesValue : List Value → List Value → Value → Type 0
NotesValue old new v = (u : Value) → list_any (is_same order_of u) new ≡ (list_any (is_same order_of u) old || is_same order_of u v)

-- the values noted, and v last where it equals none of them
abbrev pub with_noted : List Value → Value → List Value
with_noted vs v = if list_any (is_same order_of v) vs then vs else vs ++ v ∷ []
