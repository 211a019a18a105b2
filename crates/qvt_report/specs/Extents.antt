-- The extents that are written, by one walk over all.
use Rattle.std.specs.Prelude.{ℕ, ◌+◌, Bool, ◌&&◌, List, [], ◌∷◌, if◌then◌else◌}
use Rattle.qvt_slots.specs.declared.extent.Extent.{Extent}
use Rattle.qvt_store.specs.Contents.{is_named}

abbrev pub is_written : Extent → Bool
is_written x = is_named x.name && x.writable

-- their numbers, from e on
abbrev pub numbers_along : ℕ → List Extent → List ℕ
numbers_along e [] = []
numbers_along e (x ∷ xs) = if is_written x then e ∷ numbers_along (e + 1) xs else numbers_along (e + 1) xs
