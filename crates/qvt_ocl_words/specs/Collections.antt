-- Operations on collections (OCL 2.4, 11.7). Each answer that is a collection is made of a list: Sets and Bags are put in
-- order, and of equal items a Set and an OrderedSet keep the first.
use Rattle.std.specs.Prelude.{◌+◌, ◌-◌, ◌==◌, Bool, true, false, not, ℤ, pos, List, [], ◌∷◌, ◌++◌, length, reverse, slice_range, slice_index_or, if◌then◌else◌, Option, Some, None}
use Rattle.std.specs.List.{insert, list_all}
use Rattle.qvt_base.specs.declared.numbers.Place.{Place}
use Rattle.qvt_value.specs.declared.value.Value.{Value, Bool as Truth, Invalid, Null}
use Rattle.qvt_value.specs.declared.value.Value.TheViews.{Coll}
use Rattle.qvt_value.specs.declared.value.Kind.{Kind}
use Rattle.qvt_value.specs.declared.value.Kind.TheVariants.{Set, Bag, Sequence, OrderedSet}
use Rattle.qvt_value.specs.declared.value.Reason.TheVariants.{BadIndex}
use Rattle.qvt_ocl_words.specs.declared.op.Op.{Op}
use Rattle.qvt_ocl_words.specs.declared.op.Op.TheVariants.{Minus, Min, Max, Size, At, IndexOf, IsEmpty, NotEmpty, Includes, Excludes, Count, IncludesAll, ExcludesAll, Including, Excluding, Union, Flatten, AsSet, AsBag, AsSequence, AsOrderedSet, Sum, Intersection, First, Last, Append, Prepend, InsertAt, Reverse, SubSequence, SubOrderedSet}
use Rattle.qvt_value.specs.Make.{made}
use Rattle.qvt_ocl_words.specs.Integers.{whole}
use Rattle.qvt_ocl_words.specs.Strings.{is_span, natural}
use Rattle.qvt_ocl_words.specs.Lists.{has, count, index_of, excluding, lacking, common, flattened, sum_of, lesser, greater, best_by, first_of, last_of}

-- the collection of the kind that is made of the list
unfoldable pub kept : Kind → List Value → Value
kept k xs = Coll k (made k xs)

-- where the kind is Sequence or OrderedSet; Set or OrderedSet
abbrev pub is_in_order : Kind → Bool
is_in_order Sequence = true
is_in_order OrderedSet = true
is_in_order k = false

abbrev pub is_once : Kind → Bool
is_once Set = true
is_once OrderedSet = true
is_once k = false

abbrev pub same_kind : Kind → Kind → Bool
same_kind Set Set = true
same_kind Bag Bag = true
same_kind Sequence Sequence = true
same_kind OrderedSet OrderedSet = true
same_kind k l = false

-- the kind of an intersection, of Sets and Bags alone
abbrev pub common_kind : Kind → Kind → Option Kind
common_kind Set Set = Some Set
common_kind Set Bag = Some Set
common_kind Bag Set = Some Set
common_kind Bag Bag = Some Bag
common_kind k l = None

-- the answer, of the kinds that have the operation
abbrev pub where' : Bool → Value → Option Value
where' b v = if b then Some v else None

-- the i-th item
abbrev pub item_at : Place → List Value → ℤ → Value
item_at at xs i = if is_span i i (length xs) then slice_index_or xs (natural i - 1) Null else Invalid BadIndex at

-- the items from the l-th to the u-th
abbrev pub part : Place → Kind → List Value → ℤ → ℤ → Value
part at k xs l u = if is_span l u (length xs) then kept k (slice_range xs (natural l - 1) (natural u)) else Invalid BadIndex at

-- x as the i-th item
abbrev pub inserted : Place → Kind → List Value → ℤ → Value → Value
inserted at k xs i x = if is_span i i (length xs + 1) then kept k (insert xs (natural i - 1) x) else Invalid BadIndex at

abbrev pub intersected : Option Kind → List Value → List Value → Option Value
intersected None xs ys = None
intersected (Some k) xs ys = Some (kept k (common xs ys))

-- a collection without arguments
unfoldable pub of_collection : Op → Place → Kind → List Value → Option Value
of_collection Size at k xs = Some (whole at (pos (length xs)))
of_collection IsEmpty at k xs = Some (Truth (length xs == 0))
of_collection NotEmpty at k xs = Some (Truth (not (length xs == 0)))
of_collection Flatten at k xs = Some (kept k (flattened xs))
of_collection AsSet at k xs = Some (kept Set xs)
of_collection AsBag at k xs = Some (kept Bag xs)
of_collection AsSequence at k xs = Some (kept Sequence xs)
of_collection AsOrderedSet at k xs = Some (kept OrderedSet xs)
of_collection Sum at k xs = sum_of at xs
of_collection Min at k xs = best_by lesser at xs
of_collection Max at k xs = best_by greater at xs
of_collection First at k xs = where' (is_in_order k) (first_of at xs)
of_collection Last at k xs = where' (is_in_order k) (last_of at xs)
of_collection Reverse at k xs = where' (is_in_order k) (kept k (reverse xs))
of_collection op at k xs = None

-- a collection with any value
unfoldable pub of_collection_item : Op → Place → Kind → List Value → Value → Option Value
of_collection_item Includes at k xs x = Some (Truth (has xs x))
of_collection_item Excludes at k xs x = Some (Truth (not (has xs x)))
of_collection_item Count at k xs x = Some (whole at (pos (count x xs)))
of_collection_item Including at k xs x = Some (kept k (xs ++ x ∷ []))
of_collection_item Excluding at k xs x = Some (kept k (excluding x xs))
of_collection_item IndexOf at k xs x = where' (is_in_order k) (whole at (pos (index_of x xs)))
of_collection_item Append at k xs x = where' (is_in_order k) (kept k (xs ++ x ∷ []))
of_collection_item Prepend at k xs x = where' (is_in_order k) (kept k (x ∷ xs))
of_collection_item op at k xs x = None

-- a collection with an Integer
unfoldable pub of_collection_at : Op → Place → Kind → List Value → ℤ → Option Value
of_collection_at At at k xs i = where' (is_in_order k) (item_at at xs i)
of_collection_at op at k xs i = None

-- a collection with a collection
unfoldable pub of_collections : Op → Kind → List Value → Kind → List Value → Option Value
of_collections IncludesAll k xs l ys = Some (Truth (list_all (has xs) ys))
of_collections ExcludesAll k xs l ys = Some (Truth (list_all (λ y. not (has xs y)) ys))
of_collections Union k xs l ys = where' (same_kind k l) (kept k (xs ++ ys))
of_collections Intersection k xs l ys = intersected (common_kind k l) xs ys
of_collections Minus k xs l ys = where' (is_once k) (kept k (lacking ys xs))
of_collections op k xs l ys = None

-- a collection with two Integers
unfoldable pub of_collection_span : Op → Place → Kind → List Value → ℤ → ℤ → Option Value
of_collection_span SubSequence at Sequence xs l u = Some (part at Sequence xs l u)
of_collection_span SubOrderedSet at OrderedSet xs l u = Some (part at OrderedSet xs l u)
of_collection_span op at k xs l u = None

-- a collection with an Integer and any value
unfoldable pub of_collection_place : Op → Place → Kind → List Value → ℤ → Value → Option Value
of_collection_place InsertAt at k xs i x = where' (is_in_order k) (inserted at k xs i x)
of_collection_place op at k xs i x = None
