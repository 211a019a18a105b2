-- The limit of a store.
use Rattle.std.specs.Prelude.{ℕ}

-- how many objects a store holds at most
abbrev pub most_objects : ℕ
most_objects = 1000000
