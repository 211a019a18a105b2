-- The iterators, a line each (OCL 2.4, 11.9, and 7.6.6 for `iterate`; QVT 1.3, 8.2.2): what the items of the source are, whether
-- there is an accumulator, what the body is, what is answered, and whether the body has to be pure.
use Rattle.std.specs.Prelude.{ℕ, Bool, true, false, if◌then◌else◌, List, Option, Some, None, codes}
use Rattle.std.specs.Str.{bytes_eq}
use Rattle.qvt_types_steps.specs.declared.iterators.IteratorKind.{IteratorKind}
use Rattle.qvt_types_steps.specs.declared.iterators.IteratorKind.TheVariants.{Select, Reject, Collect, CollectNested, Exists, ForAll, Any, One, IsUnique, SortedBy, Iterate, Closure}
use Rattle.qvt_types_steps.specs.declared.iterators.ItemDemand.{ItemDemand}
use Rattle.qvt_types_steps.specs.declared.iterators.ItemDemand.TheVariants.{Every, Objects}
use Rattle.qvt_types_steps.specs.declared.iterators.BodyDemand.{BodyDemand}
use Rattle.qvt_types_steps.specs.declared.iterators.BodyDemand.TheVariants as body
use Rattle.qvt_types_steps.specs.declared.iterators.IteratorAnswer.{IteratorAnswer}
use Rattle.qvt_types_steps.specs.declared.iterators.IteratorAnswer.TheVariants as gives
use Rattle.qvt_types_steps.specs.declared.iterators.IteratorRow.{IteratorRow}

abbrev pub row : ItemDemand → Bool → BodyDemand → IteratorAnswer → Bool → IteratorRow
row items folds b g pure = record { items = items; folds = folds; body = b; gives = g; is_pure = pure }

abbrev pub row_of : IteratorKind → IteratorRow
row_of Select = row Every false body.Boolean gives.Items true
row_of Reject = row Every false body.Boolean gives.Items true
row_of Collect = row Every false body.Every gives.Flattened false
row_of CollectNested = row Every false body.Every gives.Bodies false
row_of Exists = row Every false body.Boolean gives.Boolean true
row_of ForAll = row Every false body.Boolean gives.Boolean true
row_of Any = row Every false body.Boolean gives.Item true
row_of One = row Every false body.Boolean gives.Boolean true
row_of IsUnique = row Every false body.Every gives.Boolean true
row_of SortedBy = row Every false body.Key gives.Sorted true
row_of Iterate = row Every true body.Accumulated gives.Accumulator true
row_of Closure = row Objects false body.SameObjects gives.Reached true

-- their names: of those with a condition as their body
unfoldable pub of_conditions : List ℕ → Option IteratorKind
of_conditions name =
    if bytes_eq name (codes "select") then Some Select
    else if bytes_eq name (codes "reject") then Some Reject
    else if bytes_eq name (codes "exists") then Some Exists
    else if bytes_eq name (codes "forAll") then Some ForAll
    else if bytes_eq name (codes "any") then Some Any
    else if bytes_eq name (codes "one") then Some One
    else None

-- and of the others
unfoldable pub of_bodies : List ℕ → Option IteratorKind
of_bodies name =
    if bytes_eq name (codes "collect") then Some Collect
    else if bytes_eq name (codes "collectNested") then Some CollectNested
    else if bytes_eq name (codes "isUnique") then Some IsUnique
    else if bytes_eq name (codes "sortedBy") then Some SortedBy
    else if bytes_eq name (codes "iterate") then Some Iterate
    else if bytes_eq name (codes "closure") then Some Closure
    else None

abbrev pub or_else : Option IteratorKind → Option IteratorKind → Option IteratorKind
or_else None other = other
or_else (Some i) other = Some i

-- the iterator of this name
abbrev pub iterator_named : List ℕ → Option IteratorKind
iterator_named name = or_else (of_conditions name) (of_bodies name)
