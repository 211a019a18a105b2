-- What an operation gives of values as made is as made, a line an operation.
use Rattle.std.proofs.Common.{ℕ, ◌+◌, ◌-◌, Bool, true, false, ◌&&◌, ◌==◌, cond, ◌+ℤ◌, ◌-ℤ◌, ◌*ℤ◌, neg_ℤ, ℤ, pos, List, [], ◌∷◌, ◌++◌, map, drop, length, reverse, refl}
use Rattle.std.specs.Prelude.{unsigned_abs, int_div, int_rem, slice_index, slice_index_or, slice_range, encode_utf8, Option, Some, None, IfSome}
use Rattle.std.specs.Option.{option_map}
use Rattle.std.specs.List.{list_any, list_all, fold, insert, find}
use Rattle.std.specs.Str.{chars, encode_utf8_all}
use Rattle.std.proofs.lemmas.List.Elements.{recursion_from_All}
use Rattle.qvt_base.specs.declared.numbers.Place.{Place}
use Rattle.qvt_value.specs.declared.value.Value.{Value, Null, Bool as Truth, Int, Str, Coll', Invalid, Row_of-Value, end_of-Value, more_of-Value, items-the_row-Value}
use Rattle.qvt_value.specs.declared.value.Kind.{Kind}
use Rattle.qvt_value.specs.declared.value.Kind.TheVariants.{Set, Bag, Sequence, OrderedSet}
use Rattle.qvt_value.specs.declared.value.Reason.TheVariants.{Overflow, ZeroDivide, BadIndex, BadNumber, NullSource, NullValue, TooLarge}
use Rattle.qvt_value.specs.Limits.{is_beyond, limited}
use Rattle.qvt_value.specs.Make.{is_invalid}
use Rattle.qvt_ocl_words.specs.declared.op.Op.{Op}
use Rattle.qvt_ocl_words.specs.declared.op.Op.TheVariants.{Equal, NotEqual, IsUndefined, IsInvalid, Plus, Minus, Times, Negate, Less, LessEqual, Greater, GreaterEqual, Abs, Min, Max, Div, Mod, ToString, Concat, Size, Substring, At, Characters, IndexOf, StartsWith, EndsWith, ToUpper, ToLower, FirstToUpper, FirstToLower, ToInteger, IsEmpty, NotEmpty, Includes, Excludes, Count, IncludesAll, ExcludesAll, Including, Excluding, Union, Flatten, AsSet, AsBag, AsSequence, AsOrderedSet, Sum, Intersection, First, Last, Append, Prepend, InsertAt, Reverse, SubSequence, SubOrderedSet}
use Rattle.qvt_ocl_words.specs.Integers.{fits_64, whole, is_zero, quotient, of_boolean, of_integer, of_integers}
use Rattle.qvt_ocl_words.specs.Strings.{is_span, natural, is_number, number_after, if_whole, index_in, of_string, of_string_at, of_string_span, of_strings}
use Rattle.qvt_ocl_words.specs.Lists as lists
use Rattle.qvt_ocl_words.specs.Collections.{kept, where', is_in_order, is_once, same_kind, common_kind, intersected, of_collection, of_collection_item, of_collection_at, of_collections, of_collection_span, of_collection_place}
use Rattle.qvt_ocl_words.specs.Operation.{on_boolean, on_integer, on_string, takes_item, with_other, with_place, on_collection, on_present, lacks_operand, unless_null, is_test, tested, is_equality, compared, on_valid, value_or, answered, operation}
use Rattle.qvt_ocl_made.specs.AsMade.{IsAsMade, IsRowAsMade}
use Rattle.qvt_ocl_made.specs.Law.{AnswerIsAsMade}
use Rattle.qvt_ocl_made.proofs.Collections.{AreAsMade, row_items, collection, kept_is}
use Rattle.qvt_ocl_made.proofs.Each as each

abbrev Gives : Option Value → Type 0
Gives o = IfSome o IsAsMade

either : (b : Bool) (v w : Value) → IsAsMade v → IsAsMade w → IsAsMade (cond b v w)
either true v w p q = p
either false v w p q = q

gives_either : (b : Bool) (o p : Option Value) → Gives o → Gives p → Gives (cond b o p)
gives_either true o p g h = g
gives_either false o p g h = h

where_is : (b : Bool) (v : Value) → IsAsMade v → Gives (where' b v)
where_is b v p = gives_either b (Some v) None p tt

-- ---- Integers, Booleans, Strings

whole_is : (at : Place) (z : ℤ) → IsAsMade (whole at z)
whole_is at z = either (fits_64 z) (Int z) (Invalid Overflow at) tt tt

quotient_is : (at : Place) (a b : ℤ) → IsAsMade (quotient at a b)
quotient_is at a b = either (is_zero b) (Invalid ZeroDivide at) (whole at (int_div a b)) tt (whole_is at (int_div a b))

remainder_is : (at : Place) (b c : Bool) (z : ℤ) → IsAsMade (cond b (Invalid ZeroDivide at) (cond c (Int z) (Invalid Overflow at)))
remainder_is at b c z = either b (Invalid ZeroDivide at) (cond c (Int z) (Invalid Overflow at)) tt (either c (Int z) (Invalid Overflow at) tt tt)

if_whole_is : (at : Place) (b : Bool) (z : ℤ) → IsAsMade (if_whole at b z)
if_whole_is at b z = either (b && fits_64 z) (Int z) (Invalid BadNumber at) tt tt

text_or_bad : (at : Place) (b : Bool) (s : List ℕ) → IsAsMade (cond b (Str s) (Invalid BadIndex at))
text_or_bad at b s = either b (Str s) (Invalid BadIndex at) tt tt

characters : (cs : List ℕ) → AreAsMade (map (λ c. Str (encode_utf8 c)) cs)
characters [] = tt
characters (c ∷ cs) = (tt, characters cs)

boolean : (op : Op) (b : Bool) → Gives (of_boolean op b)
unfolding of_boolean
boolean ToString b = tt
boolean op b = tt

integer : (op : Op) (at : Place) (a : ℤ) → Gives (of_integer op at a)
unfolding of_integer
integer Negate at a = whole_is at (neg_ℤ a)
integer Abs at a = whole_is at (pos (unsigned_abs a))
integer ToString at a = tt
integer op at a = tt

integers : (op : Op) (at : Place) (a b : ℤ) → Gives (of_integers op at a b)
unfolding of_integers
integers Plus at a b = whole_is at (a +ℤ b)
integers Minus at a b = whole_is at (a -ℤ b)
integers Times at a b = whole_is at (a *ℤ b)
integers Div at a b = quotient_is at a b
integers Mod at a b = remainder_is at (is_zero b) (fits_64 (int_div a b)) (int_rem a b)
integers Min at a b = tt
integers Max at a b = tt
integers Less at a b = tt
integers LessEqual at a b = tt
integers Greater at a b = tt
integers GreaterEqual at a b = tt
integers op at a b = tt

string : (op : Op) (at : Place) (s : List ℕ) → Gives (of_string op at s)
unfolding of_string
string Size at s = whole_is at (pos (length (chars s)))
string Characters at s = collection Sequence (map (λ c. Str (encode_utf8 c)) (chars s)) refl (characters (chars s))
string ToUpper at s = tt
string ToLower at s = tt
string FirstToUpper at s = tt
string FirstToLower at s = tt
string ToInteger at s =
    either (slice_index s 0 == 45) (if_whole at (is_number (drop 1 s)) (neg_ℤ (pos (number_after 0 (drop 1 s))))) (if_whole at (is_number s) (pos (number_after 0 s)))
    (if_whole_is at (is_number (drop 1 s)) (neg_ℤ (pos (number_after 0 (drop 1 s))))) (if_whole_is at (is_number s) (pos (number_after 0 s)))
string op at s = tt

string_at : (op : Op) (at : Place) (s : List ℕ) (i : ℤ) → Gives (of_string_at op at s i)
unfolding of_string_at
string_at At at s i = text_or_bad at (is_span i i (length (chars s))) (encode_utf8_all (slice_range (chars s) (natural i - 1) (natural i)))
string_at op at s i = tt

string_span : (op : Op) (at : Place) (s : List ℕ) (l u : ℤ) → Gives (of_string_span op at s l u)
unfolding of_string_span
string_span Substring at s l u = text_or_bad at (is_span l u (length (chars s))) (encode_utf8_all (slice_range (chars s) (natural l - 1) (natural u)))
string_span op at s l u = tt

strings : (op : Op) (at : Place) (s t : List ℕ) → Gives (of_strings op at s t)
unfolding of_strings
strings Plus at s t = tt
strings Concat at s t = tt
strings IndexOf at s t = whole_is at (pos (index_in t s))
strings StartsWith at s t = tt
strings EndsWith at s t = tt
strings Less at s t = tt
strings LessEqual at s t = tt
strings Greater at s t = tt
strings GreaterEqual at s t = tt
strings op at s t = tt

-- ---- collections

mutual
  innermost : (v : Value) → IsAsMade v → AreAsMade (lists.innermost v)
  innermost (Coll' k s r) a = flattened_row r a.1
  innermost v a = (a, tt)

  flattened_row : {m : _} (r : Row_of-Value m) → IsRowAsMade r → AreAsMade (lists.flattened_row r)
  flattened_row end_of-Value a = tt
  flattened_row (more_of-Value v vs) a = each.append IsAsMade (lists.innermost v) (lists.flattened_row vs) (innermost v a.0) (flattened_row vs a.1)

flattened : (xs : List Value) → AreAsMade xs → AreAsMade (lists.flattened xs)
flattened [] a = tt
flattened (x ∷ xs) a = each.append IsAsMade (lists.innermost x) (lists.flattened xs) (innermost x a.0) (flattened xs a.1)

sum_from : (at : Place) (n : ℤ) (xs : List Value) → Gives (lists.sum_from at n xs)
sum_from at n [] = tt
sum_from at n (Int m ∷ xs) = gives_either (fits_64 (n +ℤ m)) (lists.sum_from at (n +ℤ m) xs) (Some (Invalid Overflow at)) (sum_from at (n +ℤ m) xs) tt
sum_from at n (v ∷ xs) = tt

unless_null_item : (at : Place) (xs : List Value) (o : Option Value) → Gives o → Gives (lists.unless_null_item at xs o)
unless_null_item at xs o g = gives_either (list_any lists.is_null xs) (Some (Invalid NullValue at)) o tt g

sum_of : (at : Place) (xs : List Value) → Gives (lists.sum_of at xs)
sum_of at xs = unless_null_item at xs (cond (list_all lists.is_integer xs) (lists.sum_from at (pos 0) xs) None) (gives_either (list_all lists.is_integer xs) (lists.sum_from at (pos 0) xs) None (sum_from at (pos 0) xs) tt)

best_by : (f : Value → Value → Value) → ((v w : Value) → IsAsMade v → IsAsMade w → IsAsMade (f v w)) → (at : Place) (xs : List Value) → AreAsMade xs → Gives (lists.best_by f at xs)
best_by f h at [] a = tt
best_by f h at (x ∷ xs) a =
    unless_null_item at (x ∷ xs) (cond (lists.are_ordered (x ∷ xs)) (Some (fold f x xs)) None)
    (gives_either (lists.are_ordered (x ∷ xs)) (Some (fold f x xs)) None (each.one_of IsAsMade f h x xs a.0 a.1) tt)

first_of : (at : Place) (xs : List Value) → AreAsMade xs → IsAsMade (lists.first_of at xs)
first_of at [] a = tt
first_of at (x ∷ xs) a = a.0

last_of : (at : Place) (xs : List Value) → AreAsMade xs → IsAsMade (lists.last_of at xs)
last_of at [] a = tt
last_of at (x ∷ []) a = a.0
last_of at (x ∷ y ∷ xs) a = last_of at (y ∷ xs) a.1

alone : (op : Op) (at : Place) (k : Kind) (xs : List Value) → AreAsMade xs → Gives (of_collection op at k xs)
unfolding of_collection
alone Size at k xs a = whole_is at (pos (length xs))
alone IsEmpty at k xs a = tt
alone NotEmpty at k xs a = tt
alone Flatten at k xs a = kept_is k (lists.flattened xs) (flattened xs a)
alone AsSet at k xs a = kept_is Set xs a
alone AsBag at k xs a = kept_is Bag xs a
alone AsSequence at k xs a = kept_is Sequence xs a
alone AsOrderedSet at k xs a = kept_is OrderedSet xs a
alone Sum at k xs a = sum_of at xs
alone Min at k xs a = best_by lists.lesser (each.lesser_of IsAsMade) at xs a
alone Max at k xs a = best_by lists.greater (each.greater_of IsAsMade) at xs a
alone First at k xs a = where_is (is_in_order k) (lists.first_of at xs) (first_of at xs a)
alone Last at k xs a = where_is (is_in_order k) (lists.last_of at xs) (last_of at xs a)
alone Reverse at k xs a = where_is (is_in_order k) (kept k (reverse xs)) (kept_is k (reverse xs) (each.reversed IsAsMade xs a))
alone op at k xs a = tt

with_item : (op : Op) (at : Place) (k : Kind) (xs : List Value) (x : Value) → AreAsMade xs → IsAsMade x → Gives (of_collection_item op at k xs x)
unfolding of_collection_item
with_item Includes at k xs x a p = tt
with_item Excludes at k xs x a p = tt
with_item Count at k xs x a p = whole_is at (pos (lists.count x xs))
with_item Including at k xs x a p = kept_is k (xs ++ x ∷ []) (each.append IsAsMade xs (x ∷ []) a (p, tt))
with_item Excluding at k xs x a p = kept_is k (lists.excluding x xs) (each.filtered IsAsMade _ xs a)
with_item IndexOf at k xs x a p = where_is (is_in_order k) (whole at (pos (lists.index_of x xs))) (whole_is at (pos (lists.index_of x xs)))
with_item Append at k xs x a p = where_is (is_in_order k) (kept k (xs ++ x ∷ [])) (kept_is k (xs ++ x ∷ []) (each.append IsAsMade xs (x ∷ []) a (p, tt)))
with_item Prepend at k xs x a p = where_is (is_in_order k) (kept k (x ∷ xs)) (kept_is k (x ∷ xs) (p, a))
with_item op at k xs x a p = tt

with_index : (op : Op) (at : Place) (k : Kind) (xs : List Value) (i : ℤ) → AreAsMade xs → Gives (of_collection_at op at k xs i)
unfolding of_collection_at
with_index At at k xs i a =
    where_is (is_in_order k) (cond (is_span i i (length xs)) (slice_index_or xs (natural i - 1) Null) (Invalid BadIndex at))
    (either (is_span i i (length xs)) (slice_index_or xs (natural i - 1) Null) (Invalid BadIndex at) (each.at_index IsAsMade xs (natural i - 1) Null a tt) tt)
with_index op at k xs i a = tt

in_common : (o : Option Kind) (xs ys : List Value) → AreAsMade xs → Gives (intersected o xs ys)
in_common None xs ys a = tt
in_common (Some k) xs ys a = kept_is k (lists.common xs ys) (each.commons IsAsMade [] xs ys a)

with_items : (op : Op) (k : Kind) (xs : List Value) (l : Kind) (ys : List Value) → AreAsMade xs → AreAsMade ys → Gives (of_collections op k xs l ys)
unfolding of_collections
with_items IncludesAll k xs l ys a b = tt
with_items ExcludesAll k xs l ys a b = tt
with_items Union k xs l ys a b = where_is (same_kind k l) (kept k (xs ++ ys)) (kept_is k (xs ++ ys) (each.append IsAsMade xs ys a b))
with_items Intersection k xs l ys a b = in_common (common_kind k l) xs ys a
with_items Minus k xs l ys a b = where_is (is_once k) (kept k (lists.lacking ys xs)) (kept_is k (lists.lacking ys xs) (each.filtered IsAsMade _ xs a))
with_items op k xs l ys a b = tt

part_is : (at : Place) (k : Kind) (b : Bool) (xs : List Value) (i j : ℕ) → AreAsMade xs → IsAsMade (cond b (kept k (slice_range xs i j)) (Invalid BadIndex at))
part_is at k b xs i j a = either b (kept k (slice_range xs i j)) (Invalid BadIndex at) (kept_is k (slice_range xs i j) (each.ranged IsAsMade i j xs a)) tt

with_span : (op : Op) (at : Place) (k : Kind) (xs : List Value) (l u : ℤ) → AreAsMade xs → Gives (of_collection_span op at k xs l u)
unfolding of_collection_span
with_span SubSequence at Sequence xs l u a = part_is at Sequence (is_span l u (length xs)) xs (natural l - 1) (natural u) a
with_span SubOrderedSet at OrderedSet xs l u a = part_is at OrderedSet (is_span l u (length xs)) xs (natural l - 1) (natural u) a
with_span op at k xs l u a = tt

with_item_at : (op : Op) (at : Place) (k : Kind) (xs : List Value) (i : ℤ) (x : Value) → AreAsMade xs → IsAsMade x → Gives (of_collection_place op at k xs i x)
unfolding of_collection_place
with_item_at InsertAt at k xs i x a p =
    where_is (is_in_order k) (cond (is_span i i (length xs + 1)) (kept k (insert xs (natural i - 1) x)) (Invalid BadIndex at))
    (either (is_span i i (length xs + 1)) (kept k (insert xs (natural i - 1) x)) (Invalid BadIndex at) (kept_is k (insert xs (natural i - 1) x) (each.inserted IsAsMade (natural i - 1) x xs p a)) tt)
with_item_at op at k xs i x a p = tt

-- ---- by the sorts of the operands

from_boolean : (op : Op) (b : Bool) (vs : List Value) → Gives (on_boolean op b vs)
unfolding on_boolean
from_boolean op b [] = boolean op b
from_boolean op b (v ∷ vs) = tt

from_integer : (op : Op) (at : Place) (a : ℤ) (vs : List Value) → Gives (on_integer op at a vs)
unfolding on_integer
from_integer op at a [] = integer op at a
from_integer op at a (Int b ∷ []) = integers op at a b
from_integer op at a vs = tt

from_string : (op : Op) (at : Place) (s : List ℕ) (vs : List Value) → Gives (on_string op at s vs)
unfolding on_string
from_string op at s [] = string op at s
from_string op at s (Str t ∷ []) = strings op at s t
from_string op at s (Int i ∷ []) = string_at op at s i
from_string op at s (Int l ∷ Int u ∷ []) = string_span op at s l u
from_string op at s vs = tt

other : (op : Op) (at : Place) (k : Kind) (xs : List Value) (v : Value) → AreAsMade xs → IsAsMade v → Gives (with_other op at k xs v)
unfolding with_other
other op at k xs (Int i) a p = with_index op at k xs i a
other op at k xs (Coll' l s r) a p = with_items op k xs l (items-the_row-Value _ r) a (row_items r p.1)
other op at k xs v a p = tt

placed : (op : Op) (at : Place) (k : Kind) (xs : List Value) (i : ℤ) (v : Value) → AreAsMade xs → IsAsMade v → Gives (with_place op at k xs i v)
unfolding with_place
placed InsertAt at k xs i v a p = with_item_at InsertAt at k xs i v a p
placed op at k xs i (Int u) a p = with_span op at k xs i u a
placed op at k xs i v a p = tt

from_collection : (op : Op) (at : Place) (k : Kind) (xs vs : List Value) → AreAsMade xs → AreAsMade vs → Gives (on_collection op at k xs vs)
unfolding on_collection
from_collection op at k xs [] a b = alone op at k xs a
from_collection op at k xs (v ∷ []) a b = gives_either (takes_item op) (of_collection_item op at k xs v) (with_other op at k xs v) (with_item op at k xs v a b.0) (other op at k xs v a b.0)
from_collection op at k xs (Int i ∷ v ∷ []) a b = placed op at k xs i v a b.1.0
from_collection op at k xs vs a b = tt

from_present : (op : Op) (at : Place) (v : Value) (vs : List Value) → IsAsMade v → AreAsMade vs → Gives (on_present op at v vs)
unfolding on_present
from_present op at (Truth b) vs p a = from_boolean op b vs
from_present op at (Int n) vs p a = from_integer op at n vs
from_present op at (Str s) vs p a = from_string op at s vs
from_present op at (Coll' k s r) vs p a = from_collection op at k (items-the_row-Value _ r) vs (row_items r p.1) a
from_present op at v vs p a = tt

from_tested : (op : Op) (v : Value) (vs : List Value) → Gives (tested op v vs)
unfolding tested
from_tested IsUndefined v [] = tt
from_tested IsInvalid v [] = tt
from_tested op v vs = tt

from_compared : (op : Op) (v : Value) (vs : List Value) → Gives (compared op v vs)
unfolding compared
from_compared Equal v (w ∷ []) = tt
from_compared NotEqual v (w ∷ []) = tt
from_compared op v vs = tt

from_valid : (op : Op) (at : Place) (v : Value) (vs : List Value) → IsAsMade v → AreAsMade vs → Gives (on_valid op at v vs)
unfolding on_valid unless_null
from_valid op at v vs p a =
    gives_either (is_equality op) (compared op v vs) (unless_null op at v vs) (from_compared op v vs)
    (gives_either (lacks_operand op v vs) (Some (Invalid NullSource at)) (on_present op at v vs) tt (from_present op at v vs p a))

first_of_two : (o p : Option Value) → Gives o → Gives p → Gives (value_or o p)
first_of_two None p g h = h
first_of_two (Some v) p g h = g

from_operands : (op : Op) (at : Place) (v : Value) (vs : List Value) → IsAsMade v → AreAsMade vs → Gives (answered op at v vs)
unfolding answered
from_operands op at v vs p a =
    gives_either (is_test op) (tested op v vs) (value_or (find is_invalid (v ∷ vs)) (on_valid op at v vs)) (from_tested op v vs)
    (first_of_two (find is_invalid (v ∷ vs)) (on_valid op at v vs) (each.found IsAsMade is_invalid (v ∷ vs) (p, a)) (from_valid op at v vs p a))

limited_is : (at : Place) (v : Value) → IsAsMade v → IsAsMade (limited at v)
unfolding limited
limited_is at v p = either (is_beyond v) (Invalid TooLarge at) v tt p

within : (at : Place) (o : Option Value) → Gives o → Gives (option_map (limited at) o)
within at None g = tt
within at (Some v) g = limited_is at v g

pub answer_is : AnswerIsAsMade
unfolding operation
answer_is op at v vs p a = within at (answered op at v vs) (from_operands op at v vs p (recursion_from_All IsAsMade vs a))
