-- Writes, by their slots.
use Rattle.std.specs.Prelude.{◌≡◌, ℕ, ◌==◌, ◌&&◌, Bool, List}
use Rattle.std.specs.List.{list_any}
use Rattle.qvt_slots.specs.declared.commit.Write.{Write}
use Rattle.qvt_slots.specs.declared.planned.SlotKey.{SlotKey}

abbrev pub is_write_of : ℕ → ℕ → Write → Bool
is_write_of x f w = (x == w.object.0) && (f == w.feature.0)

abbrev pub listed : List Write → ℕ → ℕ → Bool
listed ws x f = list_any (is_write_of x f) ws

-- the slot of a write
abbrev pub key_of : Write → SlotKey
key_of w = record { object = w.object.0; feature = w.feature.0 }

abbrev pub is_key_of : ℕ → ℕ → SlotKey → Bool
is_key_of x f k = (x == k.object) && (f == k.feature)

-- a slot is written exactly where its numbers are among these
abbrev pub AreKeysOf : List SlotKey → List Write → Type 0
AreKeysOf ks ws = (x f : ℕ) → list_any (is_key_of x f) ks ≡ listed ws x f
