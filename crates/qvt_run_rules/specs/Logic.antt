-- The words of logic on values, null and invalid among them (OCL 2.4, 11.5.4 and 7.5.1).
use Rattle.std.specs.Prelude.{Bool, true, false, not, ◌&&◌, ◌||◌, if◌then◌else◌, List, [], ◌∷◌, Option, Some, None}
use Rattle.std.specs.List.{list_any, find}
use Rattle.qvt_tree_types.specs.declared.words.BinaryOp.{BinaryOp}
use Rattle.qvt_tree_types.specs.declared.words.BinaryOp.TheVariants as op
use Rattle.qvt_value.specs.declared.value.Value.{Value, Null, Bool as Truth, Invalid}
use Rattle.qvt_value.specs.Make.{is_invalid}
use Rattle.qvt_ocl_words.specs.Lists.{is_null, same}

abbrev pub is_true : Value → Bool
is_true (Truth b) = b
is_true v = false

abbrev pub is_false : Value → Bool
is_false (Truth b) = not b
is_false v = false

-- a Boolean, null, or invalid
abbrev pub is_logical : Value → Bool
is_logical (Truth b) = true
is_logical Null = true
is_logical (Invalid r p) = true
is_logical v = false

abbrev pub value_or : Option Value → Value → Value
value_or None other = other
value_or (Some v) other = v

-- the first of the operands that is invalid; else null, if one is; else the value
abbrev pub unless_weak : List Value → Value → Value
unless_weak vs v = value_or (find is_invalid vs) (if list_any is_null vs then Null else v)

abbrev pub negation : Value → Value
negation (Truth b) = Truth (not b)
negation v = v

-- false if one side is
abbrev pub conjunction : Value → Value → Value
conjunction v w = if is_false v || is_false w then Truth false else unless_weak (v ∷ w ∷ []) (Truth true)

-- true if one side is
abbrev pub disjunction : Value → Value → Value
disjunction v w = if is_true v || is_true w then Truth true else unless_weak (v ∷ w ∷ []) (Truth false)

abbrev pub exclusion : Value → Value → Value
exclusion v w = unless_weak (v ∷ w ∷ []) (Truth (not (same v w)))

-- the word of logic that an operator is
abbrev pub word_of : BinaryOp → Option (Value → Value → Value)
word_of op.And = Some conjunction
word_of op.Or = Some disjunction
word_of op.Xor = Some exclusion
word_of op.Implies = Some (λ v w. disjunction (negation v) w)
word_of o = None

abbrev pub if_logical : Value → Value → Option Value
if_logical v answer = if is_logical v then Some answer else None

abbrev pub worded : Option (Value → Value → Value) → Value → Value → Option Value
worded None v w = None
worded (Some f) v w = if is_logical v && is_logical w then Some (f v w) else None

-- what the word gives of two Booleans, null or invalid ones among them
unfoldable pub logic : BinaryOp → Value → Value → Option Value
logic o v w = worded (word_of o) v w

-- what it gives by its left side alone: after false for `and` and `implies`, after true for `or`
unfoldable pub by_left : BinaryOp → Value → Option Value
by_left op.And v = if is_false v then Some (Truth false) else None
by_left op.Implies v = if is_false v then Some (Truth true) else None
by_left op.Or v = if is_true v then Some (Truth true) else None
by_left o v = None

unfoldable pub not_of : Value → Option Value
not_of v = if_logical v (negation v)
