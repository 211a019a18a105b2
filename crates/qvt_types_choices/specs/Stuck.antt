-- The classes whose objects may be handed to some units of a name, and to no single one.
use Rattle.std.specs.Prelude.{ℕ, ◌&&◌, ◌||◌, not, Bool, List, length, filter, Option, is_some, if◌then◌else◌}
use Rattle.std.specs.List.{list_any, range_with_len}
use Rattle.qvt_metas.specs.Metamodels.{Metamodels, class_at}
use Rattle.qvt_metas.specs.Descends.{descends}
use Rattle.qvt_types_units.specs.declared.choice.FoundUnit.{FoundUnit}
use Rattle.qvt_types_units.specs.declared.choice.FoundUnit.TheVariants.{NoUnit, Untyped, Chosen}
use Rattle.qvt_types_units.specs.declared.signature.HeadClass.{HeadClass}
use Rattle.qvt_types_units.specs.declared.signature.HeadClass.TheVariants.{Missing, Unknown, Known}
use Rattle.qvt_types_units.specs.declared.signature.Signature.{Signature}
use Rattle.qvt_types_units.specs.Choice.{candidates, chosen, is_empty}

-- a concrete class whose objects may be handed to some of the units, and to no single one
unfoldable pub is_stuck : Metamodels → List Signature → List ℕ → ℕ → Bool
is_stuck m us ns d = not (class_at m d).is_abstract && (not (is_empty (candidates m us ns d)) && not (is_some (chosen m us ns d)))

-- such classes, among the first n
abbrev pub stuck_among : Metamodels → List Signature → List ℕ → ℕ → List ℕ
stuck_among m us ns n = filter (is_stuck m us ns) (range_with_len 0 n)

abbrev pub all_stuck : Metamodels → List Signature → List ℕ → List ℕ
all_stuck m us ns = stuck_among m us ns (length m.classes)

-- a class of these is the class or below it, or there is no choice
abbrev pub lacks_one : Metamodels → List ℕ → ℕ → Option ℕ → Bool
lacks_one m stuck c o = not (is_some o) || list_any (λ d. descends m d c) stuck

-- one unit alone
abbrev pub found_alone : Metamodels → ℕ → HeadClass → ℕ → FoundUnit
found_alone m n Missing c = NoUnit
found_alone m n Unknown c = Untyped
found_alone m n (Known d) c = if descends m c d.0 then Chosen n else NoUnit
