-- What an operation gives of its source and its arguments, if anything. An invalid operand comes first, the leftmost of them,
-- then a null one; then the sorts of the operands decide. An answer beyond the limits is TooLarge.
use Rattle.std.specs.Prelude.{ℕ, ℤ, Bool, true, false, not, ◌||◌, List, [], ◌∷◌, if◌then◌else◌, Option, Some, None}
use Rattle.std.specs.Option.{option_map}
use Rattle.std.specs.List.{list_any, find}
use Rattle.qvt_base.specs.declared.numbers.Place.{Place}
use Rattle.qvt_value.specs.declared.value.Value.{Value, Null, Bool as Truth, Int, Str, Coll', Invalid, items-the_row-Value}
use Rattle.qvt_value.specs.declared.value.Kind.{Kind}
use Rattle.qvt_value.specs.declared.value.Reason.TheVariants.{NullSource}
use Rattle.qvt_value.specs.Make.{is_invalid}
use Rattle.qvt_value.specs.Limits.{limited}
use Rattle.qvt_ocl_words.specs.declared.op.Op.{Op}
use Rattle.qvt_ocl_words.specs.declared.op.Op.TheVariants.{Equal, NotEqual, IsUndefined, IsInvalid, Includes, Excludes, Count, Including, Excluding, IndexOf, Append, Prepend, InsertAt}
use Rattle.qvt_ocl_words.specs.Integers.{of_boolean, of_integer, of_integers}
use Rattle.qvt_ocl_words.specs.Strings.{of_string, of_string_at, of_string_span, of_strings}
use Rattle.qvt_ocl_words.specs.Lists.{same, is_null}
use Rattle.qvt_ocl_words.specs.Collections.{of_collection, of_collection_item, of_collection_at, of_collections, of_collection_span, of_collection_place}

-- a Boolean, an Integer, a String, a collection with its arguments
unfoldable pub on_boolean : Op → Bool → List Value → Option Value
on_boolean op b [] = of_boolean op b
on_boolean op b vs = None

unfoldable pub on_integer : Op → Place → ℤ → List Value → Option Value
on_integer op at a [] = of_integer op at a
on_integer op at a (Int b ∷ []) = of_integers op at a b
on_integer op at a vs = None

unfoldable pub on_string : Op → Place → List ℕ → List Value → Option Value
on_string op at s [] = of_string op at s
on_string op at s (Str t ∷ []) = of_strings op at s t
on_string op at s (Int i ∷ []) = of_string_at op at s i
on_string op at s (Int l ∷ Int u ∷ []) = of_string_span op at s l u
on_string op at s vs = None

-- the argument is an item of any sort, and not a place or a collection
abbrev pub takes_item : Op → Bool
takes_item Includes = true
takes_item Excludes = true
takes_item Count = true
takes_item Including = true
takes_item Excluding = true
takes_item IndexOf = true
takes_item Append = true
takes_item Prepend = true
takes_item op = false

-- an argument that is no item: a place, or a collection
unfoldable pub with_other : Op → Place → Kind → List Value → Value → Option Value
with_other op at k xs (Int i) = of_collection_at op at k xs i
with_other op at k xs (Coll' l s r) = of_collections op k xs l (items-the_row-Value _ r)
with_other op at k xs v = None

unfoldable pub with_place : Op → Place → Kind → List Value → ℤ → Value → Option Value
with_place InsertAt at k xs i x = of_collection_place InsertAt at k xs i x
with_place op at k xs i (Int u) = of_collection_span op at k xs i u
with_place op at k xs i v = None

unfoldable pub on_collection : Op → Place → Kind → List Value → List Value → Option Value
on_collection op at k xs [] = of_collection op at k xs
on_collection op at k xs (v ∷ []) = if takes_item op then of_collection_item op at k xs v else with_other op at k xs v
on_collection op at k xs (Int i ∷ v ∷ []) = with_place op at k xs i v
on_collection op at k xs vs = None

-- operands that are neither invalid nor null where they may not be
unfoldable pub on_present : Op → Place → Value → List Value → Option Value
on_present op at (Truth b) vs = on_boolean op b vs
on_present op at (Int n) vs = on_integer op at n vs
on_present op at (Str s) vs = on_string op at s vs
on_present op at (Coll' k s r) vs = on_collection op at k (items-the_row-Value _ r) vs
on_present op at v vs = None

-- the arguments that are no items: items may be null
abbrev pub besides_items : Op → List Value → List Value
besides_items InsertAt (i ∷ x ∷ vs) = i ∷ vs
besides_items op (x ∷ vs) = if takes_item op then vs else x ∷ vs
besides_items op [] = []

-- the source is null, or an argument that may not be
abbrev pub lacks_operand : Op → Value → List Value → Bool
lacks_operand op Null vs = true
lacks_operand op (Coll' k s r) vs = list_any is_null (besides_items op vs)
lacks_operand op v vs = list_any is_null vs

unfoldable pub unless_null : Op → Place → Value → List Value → Option Value
unless_null op at v vs = if lacks_operand op v vs then Some (Invalid NullSource at) else on_present op at v vs

-- oclIsUndefined and oclIsInvalid, which read any value, invalid ones too
abbrev pub is_test : Op → Bool
is_test IsUndefined = true
is_test IsInvalid = true
is_test op = false

unfoldable pub tested : Op → Value → List Value → Option Value
tested IsUndefined v [] = Some (Truth (is_null v || is_invalid v))
tested IsInvalid v [] = Some (Truth (is_invalid v))
tested op v vs = None

-- = and <>, which read null as any other value
abbrev pub is_equality : Op → Bool
is_equality Equal = true
is_equality NotEqual = true
is_equality op = false

unfoldable pub compared : Op → Value → List Value → Option Value
compared Equal v (w ∷ []) = Some (Truth (same v w))
compared NotEqual v (w ∷ []) = Some (Truth (not (same v w)))
compared op v vs = None

-- operands none of which is invalid
unfoldable pub on_valid : Op → Place → Value → List Value → Option Value
on_valid op at v vs = if is_equality op then compared op v vs else unless_null op at v vs

abbrev pub value_or : Option Value → Option Value → Option Value
value_or None o = o
value_or (Some v) o = Some v

-- what is answered, whatever its size
unfoldable pub answered : Op → Place → Value → List Value → Option Value
answered op at v vs = if is_test op then tested op v vs else value_or (find is_invalid (v ∷ vs)) (on_valid op at v vs)

-- what the operation gives, if anything
unfoldable pub operation : Op → Place → Value → List Value → Option Value
operation op at v vs = option_map (limited at) (answered op at v vs)
