-- What is answered of a collection, by its kind and its items.
use Rattle.std.proofs.Common.{◌≡◌, ◌∙◌, false, cond, ap, List, [], ◌∷◌, ◌++◌}
use Rattle.std.specs.Prelude.{Some, None, reverse}
use Rattle.std.specs.List.{list_any}
use Rattle.qvt_base.specs.declared.numbers.Place.{Place}
use Rattle.qvt_value.specs.declared.value.Value.{Value, Invalid, items_hidden-the_row-Value-0}
use Rattle.qvt_value.specs.declared.value.Value.TheViews.{Coll}
use Rattle.qvt_value.specs.declared.value.Kind.{Kind}
use Rattle.qvt_value.specs.declared.value.Kind.TheVariants as kind
use Rattle.qvt_value.specs.declared.value.Reason.TheVariants.{NullSource}
use Rattle.qvt_value.specs.Make.{is_invalid}
use Rattle.qvt_ocl_words.specs.declared.op.Op.{Op}
use Rattle.qvt_ocl_words.specs.declared.op.Op.TheVariants.{AsSet, AsBag, AsSequence, AsOrderedSet, Including, Union, Append, Reverse}
use Rattle.qvt_ocl_words.specs.Lists.{is_null}
use Rattle.qvt_ocl_words.specs.Collections.{kept, where', is_in_order, same_kind, of_collection, of_collection_item, of_collections}
use Rattle.qvt_ocl_words.specs.Operation.{besides_items, on_present, on_collection, with_other, unless_null, on_valid, value_or, answered}

-- the last step: neither invalid nor null operands
pub unless_null_coll : (op : Op) (at : Place) (k : Kind) (xs vs : List Value) → unless_null op at (Coll k xs) vs ≡ cond (list_any is_null (besides_items op vs)) (Some (Invalid NullSource at)) (on_collection op at k xs vs)
unfolding unless_null on_present
unless_null_coll op at k xs vs = ap (λ ys. cond (list_any is_null (besides_items op vs)) (Some (Invalid NullSource at)) (on_collection op at k ys vs)) (items_hidden-the_row-Value-0 xs)

-- what is built on the list
pub as_set : (at : Place) (k : Kind) (xs : List Value) → answered AsSet at (Coll k xs) [] ≡ Some (kept kind.Set xs)
unfolding answered on_valid unless_null on_present on_collection of_collection
as_set at k xs = ap (λ ys. Some (kept kind.Set ys)) (items_hidden-the_row-Value-0 xs)

pub as_bag : (at : Place) (k : Kind) (xs : List Value) → answered AsBag at (Coll k xs) [] ≡ Some (kept kind.Bag xs)
unfolding answered on_valid unless_null on_present on_collection of_collection
as_bag at k xs = ap (λ ys. Some (kept kind.Bag ys)) (items_hidden-the_row-Value-0 xs)

pub as_sequence : (at : Place) (k : Kind) (xs : List Value) → answered AsSequence at (Coll k xs) [] ≡ Some (kept kind.Sequence xs)
unfolding answered on_valid unless_null on_present on_collection of_collection
as_sequence at k xs = ap (λ ys. Some (kept kind.Sequence ys)) (items_hidden-the_row-Value-0 xs)

pub as_ordered_set : (at : Place) (k : Kind) (xs : List Value) → answered AsOrderedSet at (Coll k xs) [] ≡ Some (kept kind.OrderedSet xs)
unfolding answered on_valid unless_null on_present on_collection of_collection
as_ordered_set at k xs = ap (λ ys. Some (kept kind.OrderedSet ys)) (items_hidden-the_row-Value-0 xs)

pub reverse_is : (at : Place) (k : Kind) (xs : List Value) → answered Reverse at (Coll k xs) [] ≡ where' (is_in_order k) (kept k (reverse xs))
unfolding answered on_valid unless_null on_present on_collection of_collection
reverse_is at k xs = ap (λ ys. where' (is_in_order k) (kept k (reverse ys))) (items_hidden-the_row-Value-0 xs)

pub including_is : (at : Place) (k : Kind) (xs : List Value) (x : Value) → is_invalid x ≡ false → answered Including at (Coll k xs) (x ∷ []) ≡ Some (kept k (xs ++ x ∷ []))
unfolding answered on_valid unless_null on_present on_collection of_collection_item
including_is at k xs x e =
    ap (λ b. value_or (cond b (Some x) None) (on_valid Including at (Coll k xs) (x ∷ []))) e
    ∙ ap (λ ys. Some (kept k (ys ++ x ∷ []))) (items_hidden-the_row-Value-0 xs)

pub append_is : (at : Place) (k : Kind) (xs : List Value) (x : Value) → is_invalid x ≡ false → answered Append at (Coll k xs) (x ∷ []) ≡ where' (is_in_order k) (kept k (xs ++ x ∷ []))
unfolding answered on_valid unless_null on_present on_collection of_collection_item
append_is at k xs x e =
    ap (λ b. value_or (cond b (Some x) None) (on_valid Append at (Coll k xs) (x ∷ []))) e
    ∙ ap (λ ys. where' (is_in_order k) (kept k (ys ++ x ∷ []))) (items_hidden-the_row-Value-0 xs)

pub union_is : (at : Place) (k l : Kind) (xs ys : List Value) → answered Union at (Coll k xs) (Coll l ys ∷ []) ≡ where' (same_kind k l) (kept k (xs ++ ys))
unfolding answered on_valid unless_null on_present on_collection with_other of_collections
union_is at k l xs ys = λ i. where' (same_kind k l) (kept k (items_hidden-the_row-Value-0 xs i ++ items_hidden-the_row-Value-0 ys i))
