-- The id that an object has in a run, in written models, in the trace and where a lower bound is told.
use Rattle.std.specs.Prelude.{◌≡◌, ℕ, ◌<◌, suc, List, [], Option, Some, None, length, slice_index_or, if◌then◌else◌, IsTrue}
use Rattle.qvt_store.specs.Contents.{Contents, extent_at, extent_of, is_live, is_writable, members_of}
use Rattle.qvt_store.specs.Stay.{StaysIn}
use Rattle.qvt_model.specs.Extents.{own_id, numbers, place_within, data_of}
use Rattle.qvt_model.specs.IdTables.{id_in}
use Rattle.qvt_model.specs.WellFormed.{object_data_at}

abbrev pub place_id : Option ℕ → List ℕ
place_id None = []
place_id (Some i) = own_id (suc i)

abbrev pub file_id : Option (List ℕ) → List ℕ
file_id None = []
file_id (Some id) = id

-- that of its file in an extent that is not writable, else `o` and its place in its extent, from 1
abbrev pub run_id : Contents → List (Option (List ℕ)) → ℕ → List ℕ
run_id s ids x = if is_writable s x then place_id (place_within (numbers (members_of s (extent_of s x))) x) else file_id (id_in ids x)

-- the ids in the data of a writable extent are these
abbrev pub DataHaveRunIds : Type 0
DataHaveRunIds = (s : Contents) (ids : List (Option (List ℕ))) (e i : ℕ) → i < length (members_of s e) → IsTrue (extent_at s e).writable →
    (object_data_at (data_of s e) i).id ≡ run_id s ids (slice_index_or (members_of s e) i (record { 0 = 0 })).0

-- An object keeps its id while objects are added and slots are changed, where the table tells of it what it told.
abbrev pub RunIdsStay : Type 0
RunIdsStay = (s s' : Contents) (old new : List (Option (List ℕ))) (x : ℕ) → StaysIn s s' → IsTrue (is_live s x) → id_in new x ≡ id_in old x → run_id s' new x ≡ run_id s old x
