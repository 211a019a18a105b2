-- Values as they are made: the list of each collection in them is what its kind keeps of it (OCL 2.4, 11.6). So a Set's and a
-- Bag's are in order, and in a Set's and an OrderedSet's nothing stands twice.
use Rattle.std.specs.Prelude.{◌≡◌, ⊤}
use Rattle.qvt_value.specs.declared.value.Value.{Value, Coll', Row_of-Value, end_of-Value, more_of-Value, items-the_row-Value}
use Rattle.qvt_value.specs.Make.{made}

abbrev mutual
  -- the collection's list is made of itself, and its items are as made
  pub IsAsMade : Value → Type 0
  IsAsMade (Coll' k s r) = (made k (items-the_row-Value _ r) ≡ items-the_row-Value _ r) × IsRowAsMade r
  IsAsMade v = ⊤

  pub IsRowAsMade : {m : _} → Row_of-Value m → Type 0
  IsRowAsMade end_of-Value = ⊤
  IsRowAsMade (more_of-Value v vs) = IsAsMade v × IsRowAsMade vs
