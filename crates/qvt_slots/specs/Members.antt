-- The lists of the objects of extents.
use Rattle.std.specs.Prelude.{◌≡◌, ℕ, List, [], length, slice_index_or}
use Rattle.qvt_base.specs.declared.numbers.Oid.{Oid}

-- so many empty lists
pub record AreEmpty (count : ℕ) (lists : List (List Oid)) : Type 0 where
  pub same : length lists ≡ count
  pub empty : (e : ℕ) → slice_index_or lists e [] ≡ []
