-- Where each object stands in its extent: one walk over the objects, with a count for each extent.
use Rattle.std.specs.Prelude.{ℕ, ◌+◌, nat_lt, List, [], ◌∷◌, map, slice_index_or, slice_set, length, if◌then◌else◌}
use Rattle.qvt_store.specs.Contents.{Instance, Contents}

-- how many objects an extent had so far
abbrev pub count_at : List ℕ → ℕ → ℕ
count_at counts e = slice_index_or counts e 0

abbrev pub raised : List ℕ → ℕ → List ℕ
raised counts e = if nat_lt e (length counts) then slice_set counts e (count_at counts e + 1) else counts

abbrev pub places_from : List ℕ → List Instance → List ℕ
places_from counts [] = []
places_from counts (o ∷ os) = count_at counts o.extent ∷ places_from (raised counts o.extent) os

abbrev pub no_counts : Contents → List ℕ
no_counts s = map (λ _. 0) s.extents

-- of an object of no extent the place says nothing
unfoldable pub places_of : Contents → List ℕ
places_of s = places_from (no_counts s) s.objects
