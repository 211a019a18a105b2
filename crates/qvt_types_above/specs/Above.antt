-- What is told of units of a name by few of them, which ask of those that override them all that the others ask.
use Rattle.std.specs.Prelude.{ℕ, ◌==◌, ◌||◌, List, [], ◌∷◌, if◌then◌else◌, slice_index_or}
use Rattle.qvt_base.specs.declared.numbers.ClassNo.{ClassNo}
use Rattle.qvt_metas.specs.Metamodels.{Metamodels}
use Rattle.qvt_types_groups.specs.declared.signature.Signature.{Signature}
use Rattle.qvt_types_above.specs.declared.above.Above.{Above}
use Rattle.qvt_types_above.specs.declared.above.Above.TheVariants.{Untold, Nothing, Least, Both, Listed}
use Rattle.qvt_types_above.specs.Covers.{covers_at}

-- of two units the one that asks all that the other asks, or both
abbrev pub lower_of : Metamodels → List Signature → ℕ → ℕ → Above
lower_of m us n k = if covers_at m us n k then Least n else if covers_at m us k n then Least k else Both n k

-- of a unit more and two others, of which none asks all that the other asks
abbrev pub beside_two : Metamodels → List Signature → ℕ → ℕ → ℕ → Above
beside_two m us i k n =
    if covers_at m us i n || covers_at m us k n then Both i k
    else if covers_at m us n i then (if covers_at m us n k then Least n else Both n k)
    else if covers_at m us n k then Both i n
    else Untold

-- a unit more beside what is told
abbrev pub with_one : Metamodels → List Signature → Above → ℕ → Above
with_one m us Untold n = Untold
with_one m us Nothing n = Least n
with_one m us (Least k) n = lower_of m us k n
with_one m us (Both i k) n = beside_two m us i k n
with_one m us (Listed s) n = Untold

-- a list more
abbrev pub with_list : Above → ℕ → Above
with_list Untold s = Untold
with_list Nothing s = Listed s
with_list (Least n) s = Untold
with_list (Both i k) s = Untold
with_list (Listed r) s = if r == s then Listed s else Untold

-- what two tellings tell together, where that is told by as little
abbrev pub combined : Metamodels → List Signature → Above → Above → Above
combined m us a Untold = Untold
combined m us a Nothing = a
combined m us a (Least n) = with_one m us a n
combined m us a (Both i k) = with_one m us (with_one m us a i) k
combined m us a (Listed s) = with_list a s

-- what is told of a class, in a list by the numbers of classes
abbrev pub above_at : List Above → ℕ → Above
above_at row c = slice_index_or row c Untold

-- what is told together already and of these classes
abbrev pub from_all : Metamodels → List Signature → List Above → Above → List ClassNo → Above
from_all m us row s [] = s
from_all m us row s (c ∷ cs) = from_all m us row (combined m us s (above_at row c.0)) cs
