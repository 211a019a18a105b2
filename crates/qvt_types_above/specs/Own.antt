-- What is told of the units of each class by itself, and of those of the class above all.
use Rattle.std.specs.Prelude.{ℕ, List, [], ◌∷◌, if◌then◌else◌, slice_set}
use Rattle.qvt_metas.specs.Metamodels.{Metamodels, is_element}
use Rattle.qvt_types_groups.specs.declared.signature.HeadClass.{HeadClass}
use Rattle.qvt_types_groups.specs.declared.signature.HeadClass.TheVariants.{Missing, Unknown, Known}
use Rattle.qvt_types_groups.specs.declared.signature.Signature.{Signature}
use Rattle.qvt_types_groups.specs.ByClass.{is_top}
use Rattle.qvt_types_groups.specs.Choice.{context_at}
use Rattle.qvt_types_above.specs.declared.above.Above.{Above}
use Rattle.qvt_types_above.specs.declared.above.Above.TheVariants.{Least}
use Rattle.qvt_types_above.specs.Above.{combined, above_at}

-- a unit more of its own class
abbrev pub own_more : Metamodels → List Signature → List Above → HeadClass → ℕ → List Above
own_more m us row (Known c) n = slice_set row c.0 (combined m us (above_at row c.0) (Least n))
own_more m us row Missing n = row
own_more m us row Unknown n = row

-- the units of each class
abbrev pub own_row : Metamodels → List Signature → List Above → List ℕ → List Above
own_row m us row [] = row
own_row m us row (n ∷ ns) = own_row m us (own_more m us row (context_at us n) n) ns

-- a unit more of the class above all, where it is of that
abbrev pub top_more : Metamodels → List Signature → Above → ℕ → Above
top_more m us s n = if is_top m (context_at us n) then combined m us s (Least n) else s

abbrev pub top_units : Metamodels → List Signature → Above → List ℕ → Above
top_units m us s [] = s
top_units m us s (n ∷ ns) = top_units m us (top_more m us s n) ns

-- the units of a class, and where it is not above all those of the class that is
abbrev pub base_of : Metamodels → List Signature → List Above → Above → ℕ → Above
base_of m us own top c = if is_element m c then above_at own c else combined m us (above_at own c) top
