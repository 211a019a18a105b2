-- Words on lists of values. Two values are the same where the order of values says so.
use Rattle.std.specs.Prelude.{ℕ, ◌+◌, nat_lt, Bool, true, false, not, ◌||◌, ℤ, pos, ◌+ℤ◌, List, [], ◌∷◌, ◌++◌, filter, if◌then◌else◌, Option, Some, None}
use Rattle.std.specs.List.{list_any, list_all, fold, position}
use Rattle.std.specs.Ordering.{is_lt}
use Rattle.qvt_base.specs.declared.numbers.Place.{Place}
use Rattle.qvt_value.specs.declared.value.Value.{Value, Null, Int, Str, Coll', Invalid, Row_of-Value, end_of-Value, more_of-Value}
use Rattle.qvt_value.specs.declared.value.Reason.TheVariants.{Overflow, NullValue, EmptySource}
use Rattle.qvt_value.specs.Kept.{is_same, times, without}
use Rattle.qvt_value.specs.Order.{order_of}
use Rattle.qvt_ocl_words.specs.Integers.{fits_64}

abbrev pub same : Value → Value → Bool
same v w = is_same order_of v w

-- whether x stands in the list
abbrev pub has : List Value → Value → Bool
has xs x = list_any (same x) xs

-- how often it does
abbrev pub count : Value → List Value → ℕ
count x xs = times order_of x xs

-- an index from 1, or 0
abbrev pub index_after : Option ℕ → ℕ
index_after None = 0
index_after (Some i) = i + 1

-- where it first stands
abbrev pub index_of : Value → List Value → ℕ
index_of x xs = index_after (position (same x) xs)

-- what is not x, and what is not in ys
abbrev pub excluding : Value → List Value → List Value
excluding x xs = without order_of x xs

abbrev pub lacking : List Value → List Value → List Value
lacking ys xs = filter (λ x. not (has ys x)) xs

-- each item as often as it stands in both: it is kept where it stood less often before it than it stands in ys
abbrev pub common_after : List Value → List Value → List Value → List Value
common_after before [] ys = []
common_after before (x ∷ xs) ys = if nat_lt (count x before) (count x ys) then x ∷ common_after (before ++ x ∷ []) xs ys else common_after (before ++ x ∷ []) xs ys

abbrev pub common : List Value → List Value → List Value
common xs ys = common_after [] xs ys

abbrev mutual
  -- a value that is no collection, or what is in the collection, down to the innermost
  pub innermost : Value → List Value
  innermost (Coll' k s r) = flattened_row r
  innermost v = v ∷ []

  pub flattened_row : {m : _} → Row_of-Value m → List Value
  flattened_row end_of-Value = []
  flattened_row (more_of-Value v vs) = innermost v ++ flattened_row vs

abbrev pub flattened : List Value → List Value
flattened [] = []
flattened (v ∷ vs) = innermost v ++ flattened vs

abbrev pub is_null : Value → Bool
is_null Null = true
is_null v = false

abbrev pub is_integer : Value → Bool
is_integer (Int n) = true
is_integer v = false

abbrev pub is_string : Value → Bool
is_string (Str s) = true
is_string v = false

-- the sum so far and the items, from the left; Overflow where a sum on the way is
abbrev pub sum_from : Place → ℤ → List Value → Option Value
sum_from at n [] = Some (Int n)
sum_from at n (Int m ∷ vs) = if fits_64 (n +ℤ m) then sum_from at (n +ℤ m) vs else Some (Invalid Overflow at)
sum_from at n (v ∷ vs) = None

-- NullValue where an item is null
abbrev pub unless_null_item : Place → List Value → Option Value → Option Value
unless_null_item at vs o = if list_any is_null vs then Some (Invalid NullValue at) else o

-- the sum of Integers alone
abbrev pub sum_of : Place → List Value → Option Value
sum_of at vs = unless_null_item at vs (if list_all is_integer vs then sum_from at (pos 0) vs else None)

abbrev pub lesser : Value → Value → Value
lesser v w = if is_lt (order_of w v) then w else v

abbrev pub greater : Value → Value → Value
greater v w = if is_lt (order_of v w) then w else v

-- all of them Integers, or all Strings
abbrev pub are_ordered : List Value → Bool
are_ordered vs = list_all is_integer vs || list_all is_string vs

-- the one item that is taken out of two, over all
abbrev pub best_by : (Value → Value → Value) → Place → List Value → Option Value
best_by f at [] = Some (Invalid EmptySource at)
best_by f at (v ∷ vs) = unless_null_item at (v ∷ vs) (if are_ordered (v ∷ vs) then Some (fold f v vs) else None)

abbrev pub first_of : Place → List Value → Value
first_of at [] = Invalid EmptySource at
first_of at (v ∷ vs) = v

abbrev pub last_of : Place → List Value → Value
last_of at [] = Invalid EmptySource at
last_of at (v ∷ []) = v
last_of at (v ∷ w ∷ vs) = last_of at (w ∷ vs)
