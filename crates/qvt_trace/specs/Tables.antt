-- What a table keeps under a key.
use Rattle.std.specs.Prelude.{ℕ, ◌<◌, Bool, List, [], IsSomeAnd}
use Rattle.std.specs.Option.{option_map_or}
use Rattle.std.specs.Vec.{vec_items, vec_len, vec_capacity}
use Rattle.indexmap.specs.IndexMap.{get}
use Rattle.qvt_trace.specs.declared.table.Table.{Table}

-- the numbers under the key; none where it has no list
abbrev pub kept : {K : Type 0} → (K → K → Bool) → Table K → K → List ℕ
kept eq t k = option_map_or (λ v. vec_items v) (get eq t.lists k) []

-- one number more under the key takes no memory
abbrev pub IsReady : {K : Type 0} → (K → K → Bool) → Table K → K → Type 0
IsReady eq t k = IsSomeAnd (get eq t.lists k) (λ v. vec_len v < vec_capacity v)
