-- Steps of which the first that fails ends the whole, and walks over lists that end at the first fault.
use Rattle.std.specs.Prelude.{◌≡◌, ◌≢◌, List, [], ◌∷◌, Option, Some, None, option_map, option_and_then, Result, Ok, Err, ⊤}
use Rattle.serde_json.specs.Data.{Data, Items, no_items, item}
use Rattle.qvt_results.specs.Bind.{◌>>=◌}

-- the value, or this fault where there is none
abbrev pub or_fault : {A F : Type 0} → F → Option A → Result A F
or_fault e None = Err e
or_fault e (Some x) = Ok x

-- no value, or the fault that was found
abbrev pub none_of : {F : Type 0} → Option F → Result ⊤ F
none_of None = Ok tt
none_of (Some e) = Err e

-- the first of two faults
abbrev pub or_next : {F : Type 0} → Option F → Option F → Option F
or_next None o = o
or_next (Some e) o = Some e

-- a step for each, or the first fault
abbrev pub each : {X Y F : Type 0} → (X → Result Y F) → List X → Result (List Y) F
each f [] = Ok []
each f (x ∷ xs) = do
  y ← f x
  ys ← each f xs
  Ok (y ∷ ys)

-- the same over the items of an array
abbrev pub each_item : {Y F : Type 0} → (Data → Result Y F) → Items → Result (List Y) F
each_item f no_items = Ok []
each_item f (item d ds) = do
  y ← f d
  ys ← each_item f ds
  Ok (y ∷ ys)

-- a check of each item, or the first fault
abbrev pub walk_items : {F : Type 0} → (Data → Result ⊤ F) → Items → Result ⊤ F
walk_items f no_items = Ok tt
walk_items f (item d ds) = do
  _ ← f d
  walk_items f ds

-- all of the items, or none
abbrev pub all_items : {Y : Type 0} → (Data → Option Y) → Items → Option (List Y)
all_items f no_items = Some []
all_items f (item d ds) = option_and_then (λ y. option_map (λ ys. y ∷ ys) (all_items f ds)) (f d)

-- what was read is what is stated, but for one fault that is free: want of memory
abbrev pub GivesStated : {X Y F : Type 0} → F → (X → Y) → Result X F → Result Y F → Type 0
GivesStated free seen (Ok x) stated = stated ≡ Ok (seen x)
GivesStated free seen (Err e) stated = e ≢ free → stated ≡ Err e
