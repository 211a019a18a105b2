-- The ids that the objects of a store have in their files, by the objects' numbers.
use Rattle.std.specs.Prelude.{◌≡◌, ℕ, ◌+◌, ◌-◌, ◌≤◌, List, ◌++◌, length, replicate, Option, Some, None, slice_index_or, slice_set}

-- the id of object x, none where no loading gave it one
abbrev pub id_in : List (Option (List ℕ)) → ℕ → Option (List ℕ)
id_in table x = slice_index_or table x None

-- the table with room for so many ids
abbrev pub with_room : List (Option (List ℕ)) → ℕ → List (Option (List ℕ))
with_room table count = table ++ replicate (count - length table) None

-- the table with this id of object x
abbrev pub with_id : List (Option (List ℕ)) → ℕ → List ℕ → List (Option (List ℕ))
with_id table x id = slice_set (with_room table (x + 1)) x (Some id)

-- the table tells the same and has room for so many ids
pub record IsReached (old new : List (Option (List ℕ))) (count : ℕ) : Type 0 where
  pub room : count ≤ length new
  pub same : (x : ℕ) → id_in new x ≡ id_in old x
  pub exact : new ≡ with_room old count
