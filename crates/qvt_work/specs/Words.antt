-- The commands by their words.
use Rattle.std.specs.Prelude.{ℕ, List, [], ◌∷◌, Option, Some, None, if◌then◌else◌, codes}
use Rattle.std.specs.Str.{bytes_eq}

pub data CommandWords : Type 0 where
  run : List ℕ → CommandWords
  check : List ℕ → List ℕ → CommandWords
  print : List ℕ → CommandWords

-- `run JOB`, `check METAMODEL MODEL` and `print FILE`; every other list of words is no command
unfoldable pub command_of : List (List ℕ) → Option CommandWords
command_of [] = None
command_of (word ∷ []) = None
command_of (word ∷ file ∷ []) = if bytes_eq word (codes "run") then Some (run file) else if bytes_eq word (codes "print") then Some (print file) else None
command_of (word ∷ metamodel ∷ model ∷ []) = if bytes_eq word (codes "check") then Some (check metamodel model) else None
command_of (word ∷ a ∷ b ∷ more ∷ rest) = None
