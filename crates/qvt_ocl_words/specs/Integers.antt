-- Operations on Integers and Booleans (OCL 2.4, 11.5). A number out of 64 bits is Overflow.
use Rattle.std.specs.Prelude.{ℕ, zero, ◌^◌, nat_lt, Bool, true, false, ℤ, pos, negsuc, ◌+ℤ◌, ◌-ℤ◌, ◌*ℤ◌, neg_ℤ, int_lt, int_le, int_div, int_rem, unsigned_abs, List, if◌then◌else◌, Option, Some, None, codes}
use Rattle.std.specs.Fmt.{signed_decimal}
use Rattle.std.specs.Int.{int_min, int_max}
use Rattle.qvt_base.specs.declared.numbers.Place.{Place}
use Rattle.qvt_value.specs.declared.value.Value.{Value, Bool as Truth, Int, Str, Invalid}
use Rattle.qvt_value.specs.declared.value.Reason.TheVariants.{Overflow, ZeroDivide}
use Rattle.qvt_ocl_words.specs.declared.op.Op.{Op}
use Rattle.qvt_ocl_words.specs.declared.op.Op.TheVariants.{Plus, Minus, Times, Negate, Less, LessEqual, Greater, GreaterEqual, Abs, Min, Max, Div, Mod, ToString}

-- the number is one of 64 bits
abbrev pub fits_64 : ℤ → Bool
fits_64 (pos n) = nat_lt n (2 ^ 63)
fits_64 (negsuc n) = nat_lt n (2 ^ 63)

-- an Integer, or Overflow. Counts of items and characters are told by it too: no list has more than 64 bits tell
abbrev pub whole : Place → ℤ → Value
whole at z = if fits_64 z then Int z else Invalid Overflow at

abbrev pub is_zero : ℤ → Bool
is_zero (pos zero) = true
is_zero z = false

-- a div b, toward zero
abbrev pub quotient : Place → ℤ → ℤ → Value
quotient at a b = if is_zero b then Invalid ZeroDivide at else whole at (int_div a b)

-- a mod b, with a = (a div b) * b + a mod b; Overflow where a div b is
abbrev pub remainder : Place → ℤ → ℤ → Value
remainder at a b = if is_zero b then Invalid ZeroDivide at else if fits_64 (int_div a b) then Int (int_rem a b) else Invalid Overflow at

abbrev pub spelled : Bool → List ℕ
spelled true = codes "true"
spelled false = codes "false"

-- a Boolean without arguments
unfoldable pub of_boolean : Op → Bool → Option Value
of_boolean ToString b = Some (Str (spelled b))
of_boolean op b = None

-- an Integer without arguments
unfoldable pub of_integer : Op → Place → ℤ → Option Value
of_integer Negate at a = Some (whole at (neg_ℤ a))
of_integer Abs at a = Some (whole at (pos (unsigned_abs a)))
of_integer ToString at a = Some (Str (signed_decimal a))
of_integer op at a = None

-- an Integer with an Integer
unfoldable pub of_integers : Op → Place → ℤ → ℤ → Option Value
of_integers Plus at a b = Some (whole at (a +ℤ b))
of_integers Minus at a b = Some (whole at (a -ℤ b))
of_integers Times at a b = Some (whole at (a *ℤ b))
of_integers Div at a b = Some (quotient at a b)
of_integers Mod at a b = Some (remainder at a b)
of_integers Min at a b = Some (Int (int_min a b))
of_integers Max at a b = Some (Int (int_max a b))
of_integers Less at a b = Some (Truth (int_lt a b))
of_integers LessEqual at a b = Some (Truth (int_le a b))
of_integers Greater at a b = Some (Truth (int_lt b a))
of_integers GreaterEqual at a b = Some (Truth (int_le b a))
of_integers op at a b = None
