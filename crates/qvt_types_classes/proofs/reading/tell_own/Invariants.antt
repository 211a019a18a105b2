use Rattle.std.proofs.Common.{◌≡◌, ◌++◌, ℕ, List, drop, take}
use Rattle.std.specs.Str.{bytes_eq}
use Rattle.qvt_meta_repeats.specs.Flags.{repeat_flags}
use Rattle.qvt_types_classes.specs.Inherited.{names_of, own_told}
use Rattle.qvt_types_classes.proofs.reading.tell_own.Given as goal

abbrev pub invariant-loop-place : goal.invariant-loop-place
invariant-loop-place l = (names : List (List ℕ)) → l.flags ≡ repeat_flags bytes_eq names (names_of l.properties)
    → l.log ++ own_told (names ++ names_of (take l.place l.properties)) (drop l.place l.properties) ≡ l.initial.log ++ own_told names l.properties
