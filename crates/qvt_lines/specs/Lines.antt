-- Lines of the report that the meaning of a program and the outcome of a command both tell.
use Rattle.std.specs.Prelude.{ℕ, List, [], ◌∷◌, ◌++◌, codes, decimal}

abbrev pub out_of_fuel_line : ℕ → List ℕ
out_of_fuel_line fuel = codes "out of fuel: " ++ (decimal fuel ++ 10 ∷ [])

-- the model, the id of the object, and the feature
abbrev pub low_line : List ℕ → List ℕ → List ℕ → List ℕ
low_line model id feature = codes "low: " ++ (model ++ (codes ":" ++ (id ++ (codes " " ++ (feature ++ 10 ∷ [])))))
