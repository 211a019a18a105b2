-- The numbers of a place fit, also after the text that is left.
use Rattle.std.specs.Prelude.{ℕ, List, ◌+◌, ◌<◌, ◌≤◌, ◌^◌, length}
use Rattle.qvt_base.specs.declared.numbers.Place.{Place}

abbrev pub HasPlaceRoom : Place → List ℕ → Type 0
HasPlaceRoom p rest = (p.line ≤ p.offset + 1) × (p.column ≤ p.offset + 1) × (p.offset + length rest + 1 < 2 ^ 32)
