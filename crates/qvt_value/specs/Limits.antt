-- The limits of values, and what is answered beyond them.
use Rattle.std.specs.Prelude.{ℕ, nat_lt, Bool, false, List, length, if◌then◌else◌}
use Rattle.std.specs.Str.{chars}
use Rattle.qvt_base.specs.declared.numbers.Place.{Place}
use Rattle.qvt_value.specs.declared.value.Value.{Value, Str, Coll', Invalid, items-the_row-Value}
use Rattle.qvt_value.specs.declared.value.Value.TheViews.{Coll}
use Rattle.qvt_value.specs.declared.value.Kind.{Kind}
use Rattle.qvt_value.specs.declared.value.Reason.TheVariants.{TooLarge}
use Rattle.qvt_value.specs.Make.{made}

-- how many items a collection holds at most, and how many characters a String
abbrev pub most : ℕ
most = 1000000

-- a value with more than that
abbrev pub is_beyond : Value → Bool
is_beyond (Str s) = nat_lt most (length (chars s))
is_beyond (Coll' k s r) = nat_lt most (length (items-the_row-Value _ r))
is_beyond v = false

-- the value, or TooLarge
unfoldable pub limited : Place → Value → Value
limited at v = if is_beyond v then Invalid TooLarge at else v

-- a collection of the kind, made of these items: TooLarge is judged on what it keeps
unfoldable pub built : Place → Kind → List Value → Value
built at k xs = limited at (Coll k (made k xs))
