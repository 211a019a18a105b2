-- Two collections are the same exactly where their kinds and their lists are.
use Rattle.std.proofs.Common.{◌≡◌, ◌∙◌, ◌&&◌, Bool, true, false, List, [], refl, sym, ap}
use Rattle.std.specs.Cmp.Lexicographic.{slice_cmp}
use Rattle.std.specs.Ordering.{is_eq, nat_cmp, ordering_then}
use Rattle.std.specs.declared.cmp.Ordering.{Ordering}
use Rattle.std.specs.declared.cmp.Ordering.TheVariants.{Less, Equal, Greater}
use Rattle.qvt_value.specs.declared.value.Value.{Value, Coll', items-the_row-Value, items_hidden-the_row-Value-0}
use Rattle.qvt_value.specs.declared.value.Value.TheViews.{Coll}
use Rattle.qvt_value.specs.declared.value.Kind.{Kind}
use Rattle.qvt_value.specs.declared.value.Kind.TheVariants.{Set, Bag, Sequence, OrderedSet}
use Rattle.qvt_value.specs.contracts.value.KindPartialEq.TheImpl as kind
use Rattle.qvt_value.specs.contracts.value.ValueOrd.TheImpl.{ghosts}
use Rattle.qvt_value.specs.Kept.{is_same}
use Rattle.qvt_value.specs.Order.{order_of, items_order, kind_rank}
use Rattle.qvt_value.proofs.Same.{rows}

kinds_alike : (k l : Kind) → is_eq (nat_cmp (kind_rank k) (kind_rank l)) ≡ kind.ghosts.eq k l
kinds_alike Set Set = refl
kinds_alike Bag Bag = refl
kinds_alike Sequence Sequence = refl
kinds_alike OrderedSet OrderedSet = refl
kinds_alike k l = refl

both : (o p : Ordering) → is_eq (ordering_then o p) ≡ (is_eq o && is_eq p)
both Less p = refl
both Equal p = refl
both Greater p = refl

abbrev items_of : Value → List Value
items_of (Coll' k s r) = items-the_row-Value _ r
items_of v = []

abbrev kind_of : Value → Kind
kind_of (Coll' k s r) = k
kind_of v = Set

abbrev IsColl : Value → Type 0
IsColl (Coll' k s r) = Unit {0}
IsColl v = ⊥

by_items : (v w : Value) → IsColl v → IsColl w → is_same order_of v w ≡ (kind.ghosts.eq (kind_of v) (kind_of w) && is_eq (slice_cmp ghosts.cmp (items_of v) (items_of w)))
by_items (Coll' k s r) (Coll' l t q) h g =
    both (nat_cmp (kind_rank k) (kind_rank l)) (items_order r q)
    ∙ (λ i. kinds_alike k l i && is_eq (sym (rows r q) i))
by_items (Coll' k s r) w h g = absurd g
by_items v w h g = absurd h

pub same_items : (k l : Kind) (xs ys : List Value) → is_same order_of (Coll k xs) (Coll l ys) ≡ (kind.ghosts.eq k l && is_eq (slice_cmp ghosts.cmp xs ys))
same_items k l xs ys =
    by_items (Coll k xs) (Coll l ys) tt tt
    ∙ (λ i. kind.ghosts.eq k l && is_eq (slice_cmp ghosts.cmp (items_hidden-the_row-Value-0 xs i) (items_hidden-the_row-Value-0 ys i)))
