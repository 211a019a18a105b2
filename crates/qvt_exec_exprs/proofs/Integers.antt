-- What an operator gives of two Integers is within the limits.
use Rattle.std.proofs.Common.{◌≡◌, ◌∙◌, refl, sym, ap, ℤ, Bool, true, false, if◌then◌else◌, [], ◌∷◌, Some}
use Rattle.std.specs.Prelude.{◌+ℤ◌, ◌-ℤ◌, ◌*ℤ◌, int_div, int_rem}
use Rattle.qvt_base.specs.declared.numbers.Place.{Place}
use Rattle.qvt_value.specs.declared.value.Value.{Value, Int, Invalid}
use Rattle.qvt_value.specs.declared.value.Reason.TheVariants.{Overflow, ZeroDivide}
use Rattle.qvt_value.specs.Limits.{limited}
use Rattle.qvt_ocl_words.specs.Integers.{fits_64, is_zero, of_integers}
use Rattle.qvt_ocl_words.specs.Operation.{operation, answered, on_valid, unless_null, on_present, on_integer}
use Rattle.qvt_ocl_words.specs.declared.op.Op.{Op}
use Rattle.qvt_ocl_words.specs.declared.op.Op.TheVariants.{Plus, Minus, Times, Div, Mod, Min, Max, Less, LessEqual, Greater, GreaterEqual}

number : (at : Place) (z : ℤ) (fits : Bool) → limited at (if fits then Int z else Invalid Overflow at) ≡ (if fits then Int z else Invalid Overflow at)
unfolding limited
number at z true = refl
number at z false = refl

divided : (at : Place) (z : ℤ) (zero fits : Bool) →
    limited at (if zero then Invalid ZeroDivide at else if fits then Int z else Invalid Overflow at) ≡ (if zero then Invalid ZeroDivide at else if fits then Int z else Invalid Overflow at)
unfolding limited
divided at z true fits = refl
divided at z false true = refl
divided at z false false = refl

pub of_both : (op : Op) (at : Place) (a b : ℤ) (v : Value) → Some v ≡ of_integers op at a b → operation op at (Int a) (Int b ∷ []) ≡ Some v
unfolding operation answered on_valid unless_null on_present on_integer of_integers limited
of_both Plus at a b v h = ap Some (number at (a +ℤ b) (fits_64 (a +ℤ b))) ∙ sym h
of_both Minus at a b v h = ap Some (number at (a -ℤ b) (fits_64 (a -ℤ b))) ∙ sym h
of_both Times at a b v h = ap Some (number at (a *ℤ b) (fits_64 (a *ℤ b))) ∙ sym h
of_both Div at a b v h = ap Some (divided at (int_div a b) (is_zero b) (fits_64 (int_div a b))) ∙ sym h
of_both Mod at a b v h = ap Some (divided at (int_rem a b) (is_zero b) (fits_64 (int_div a b))) ∙ sym h
of_both Min at a b v h = sym h
of_both Max at a b v h = sym h
of_both Less at a b v h = sym h
of_both LessEqual at a b v h = sym h
of_both Greater at a b v h = sym h
of_both GreaterEqual at a b v h = sym h
of_both op at a b v h = absurd (cc)
