-- Lists that repeat an item.
use Rattle.std.specs.Prelude.{Bool, false, ◌||◌, List, [], ◌∷◌, ◌++◌, Option, Some, None, if◌then◌else◌}
use Rattle.std.specs.List.{list_any}

module _ {A : Type 0} (same : A → A → Bool) where
  -- an item is the same as a later one
  abbrev pub repeats_by : List A → Bool
  repeats_by [] = false
  repeats_by (x ∷ xs) = list_any (same x) xs || repeats_by xs

  -- the first item that is the same as one before it, or as one of these earlier ones
  abbrev pub repeated_by : List A → List A → Option A
  repeated_by earlier [] = None
  repeated_by earlier (x ∷ xs) = if list_any (same x) earlier then Some x else repeated_by (earlier ++ x ∷ []) xs
