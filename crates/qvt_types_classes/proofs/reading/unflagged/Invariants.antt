use Rattle.std.proofs.Common.{◌≡◌, ◌++◌, ℕ, List, drop, take}
use Rattle.std.specs.Str.{bytes_eq}
use Rattle.qvt_meta_repeats.specs.Flags.{repeat_flags}
use Rattle.qvt_types_classes.specs.Inherited.{firsts, names_of}
use Rattle.qvt_types_classes.proofs.reading.unflagged.Given as goal

abbrev pub invariant-loop-place : goal.invariant-loop-place
invariant-loop-place l = (names : List (List ℕ)) → l.flags ≡ repeat_flags bytes_eq names (names_of l.properties)
    → l.kept ++ firsts (names ++ names_of (take l.place l.properties)) (drop l.place l.properties) ≡ firsts names l.properties
