-- Tests taken apart and put together.
use Rattle.std.proofs.Common.{◌≡◌, Bool, true, false, ◌||◌, ◌&&◌, not, ◌⊎◌, inl, inr, refl}

pub and_left : (a b : Bool) → (a && b) ≡ true → a ≡ true
and_left true b h = refl
and_left false b h = h

pub and_right : (a b : Bool) → (a && b) ≡ true → b ≡ true
and_right true b h = h
and_right false b h = cc

pub and_both : (a b : Bool) → a ≡ true → b ≡ true → (a && b) ≡ true
and_both true b p q = q
and_both false b p q = p

pub and_false : (a b : Bool) → (a ≡ true → b ≡ false) → (a && b) ≡ false
and_false true b h = h refl
and_false false b h = refl

pub and_false_left : (a b : Bool) → a ≡ false → (a && b) ≡ false
and_false_left true b h = cc
and_false_left false b h = refl

pub or_cases : (a b : Bool) → (a || b) ≡ true → (a ≡ true) ⊎ (b ≡ true)
or_cases true b h = inl refl
or_cases false b h = inr h

pub or_left : (a b : Bool) → a ≡ true → (a || b) ≡ true
or_left true b h = refl
or_left false b h = cc

pub or_right : (a b : Bool) → b ≡ true → (a || b) ≡ true
or_right true b h = refl
or_right false b h = h

pub or_none : (a b : Bool) → a ≡ false → b ≡ false → (a || b) ≡ false
or_none true b p q = p
or_none false b p q = q

pub none_left : (a b : Bool) → (a || b) ≡ false → a ≡ false
none_left true b h = h
none_left false b h = refl

pub none_right : (a b : Bool) → (a || b) ≡ false → b ≡ false
none_right true b h = cc
none_right false b h = h

pub not_true : (a : Bool) → not a ≡ true → a ≡ false
not_true true h = cc
not_true false h = refl

pub not_of_false : (a : Bool) → a ≡ false → not a ≡ true
not_of_false true h = cc
not_of_false false h = refl

pub not_of_true : (a : Bool) → a ≡ true → not a ≡ false
not_of_true true h = refl
not_of_true false h = cc

pub either : (a : Bool) → (a ≡ true) ⊎ (a ≡ false)
either true = inl refl
either false = inr refl

pub refuted : (a : Bool) → (a ≡ true → ⊥) → a ≡ false
refuted true h = absurd (h refl)
refuted false h = refl

pub clash : {P : Type 0} (a : Bool) → a ≡ true → a ≡ false → P
clash true p q = cc
clash false p q = cc

pub or_false : (a : Bool) → (a || false) ≡ a
or_false true = refl
or_false false = refl

-- two tests that hold in the same cases are equal
pub same_test : (a b : Bool) → (a ≡ true → b ≡ true) → (b ≡ true → a ≡ true) → a ≡ b
same_test true true p q = refl
same_test true false p q = clash false (p refl) refl
same_test false true p q = clash false (q refl) refl
same_test false false p q = refl

pub none_of : (a b d e : Bool) → a ≡ false → b ≡ false → d ≡ false → e ≡ false → (a || b || d || e) ≡ false
none_of a b d e p q r s = or_none _ _ (or_none _ _ (or_none _ _ p q) r) s

pub first_of_4 : (a b d e : Bool) → a ≡ true → (a || b || d || e) ≡ true
first_of_4 a b d e p = or_left _ _ (or_left _ _ (or_left _ _ p))

pub second_of_4 : (a b d e : Bool) → b ≡ true → (a || b || d || e) ≡ true
second_of_4 a b d e p = or_left _ _ (or_left _ _ (or_right a _ p))

pub third_of_4 : (a b d e : Bool) → d ≡ true → (a || b || d || e) ≡ true
third_of_4 a b d e p = or_left _ _ (or_right (a || b) _ p)

pub fourth_of_4 : (a b d e : Bool) → e ≡ true → (a || b || d || e) ≡ true
fourth_of_4 a b d e p = or_right (a || b || d) _ p
