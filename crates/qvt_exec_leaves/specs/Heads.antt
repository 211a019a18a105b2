-- The name of an iterator, and the step that has an accumulator (OCL 2.4, 7.6 and 11.9).
use Rattle.std.specs.Prelude.{ℕ, Bool, true, false, if◌then◌else◌, List, option_map, Option, Some, None}
use Rattle.qvt_types_nodes.specs.declared.tree.TypedHead.{TypedHead}
use Rattle.qvt_types_nodes.specs.Tree.{TypedHeadTerm, TypedNoHead, TypedHeadOf}
use Rattle.qvt_types_nodes.specs.View.{typed_head_view, typed_optional_head}
use Rattle.qvt_types_steps.specs.Classes.{is_selection}
use Rattle.qvt_types_steps.specs.IteratorTable.{iterator_named}
use Rattle.qvt_types_steps.specs.declared.iterators.IteratorKind.{IteratorKind}
use Rattle.qvt_types_steps.specs.declared.iterators.IteratorKind.TheVariants.{Iterate}

-- the name that a head has
abbrev pub name_in : TypedHeadTerm → Option (List ℕ)
name_in TypedNoHead = None
name_in (TypedHeadOf name t a at n) = Some name

abbrev pub name_of : Option TypedHead → Option (List ℕ)
name_of h = name_in (typed_optional_head (option_map typed_head_view h))

-- the step is `iterate`
abbrev pub is_iterate : Option IteratorKind → Bool
is_iterate (Some Iterate) = true
is_iterate o = false

abbrev pub iterates : List ℕ → Bool
iterates name = if is_selection name then false else is_iterate (iterator_named name)
