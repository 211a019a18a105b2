-- The Integers of a range, one after another.
use Rattle.std.proofs.Common.{◌≡◌, ◌∙◌, ℕ, zero, suc, ◌+◌, Bool, true, false, refl, sym, ap, subst, List, [], ◌∷◌, ◌++◌, append_assoc, append-nil, add-one, arith}
use Rattle.std.specs.Prelude.{None, ℤ, pos, negsuc, ◌+ℤ◌, ◌-ℤ◌, ◌≤ℤ◌, ◌<ℤ◌, int_le, unsigned_abs, if◌then◌else◌}
use Rattle.std.specs.List.{find}
use Rattle.std.proofs.lemmas.Int.{ints}
use Rattle.qvt_value.specs.declared.value.Kind.{Kind}
use Rattle.qvt_value.specs.declared.value.Value.{Value, Int}
use Rattle.qvt_value.specs.Make.{is_invalid}
use Rattle.qvt_run_rules.specs.Expressions.{integers_from, integers_to}
use Rattle.qvt_exec_words.specs.declared.literals.Gathered.{Gathered}
use Rattle.qvt_exec_words.specs.Gathered.{AreGathered, HasMore}
use Rattle.qvt_exec_words.proofs.Gathering.{passed}

-- none of them is invalid
from_valid : (a : ℤ) (n : ℕ) → find is_invalid (integers_from a n) ≡ None
from_valid a zero = refl
from_valid a (suc n) = from_valid (a +ℤ pos 1) n

pub all_valid : (a b : ℤ) → find is_invalid (integers_to a b) ≡ None
unfolding integers_to
all_valid a b = by (int_le a b)
  where
    by : (t : Bool) → find is_invalid (if t then integers_from a (unsigned_abs (b -ℤ a) + 1) else []) ≡ None
    by true = from_valid a (unsigned_abs (b -ℤ a) + 1)
    by false = refl

le_yes : (a b : ℤ) → a ≤ℤ b → int_le a b ≡ true
le_yes a b h = grind (arith, ints)

le_no : (a b : ℤ) → b <ℤ a → int_le a b ≡ false
le_no a b h = grind (arith, ints)

pub none_left : (a b : ℤ) → b <ℤ a → integers_to a b ≡ []
unfolding integers_to
none_left a b h = ap (λ t. if t then integers_from a (unsigned_abs (b -ℤ a) + 1) else []) (le_no a b h)

some_left : (a b : ℤ) → a ≤ℤ b → integers_to a b ≡ integers_from a (unsigned_abs (b -ℤ a) + 1)
unfolding integers_to
some_left a b h = ap (λ t. if t then integers_from a (unsigned_abs (b -ℤ a) + 1) else []) (le_yes a b h)

natural : (z : ℤ) → pos 0 ≤ℤ z → z ≡ pos (unsigned_abs z)
natural (pos n) h = refl
natural (negsuc n) h = absurd (omega (arith, ints))

next : (a b : ℤ) (n : ℕ) → b -ℤ a ≡ pos n → integers_from a (n + 1) ≡ Int a ∷ integers_to (a +ℤ pos 1) b
next a b zero e =
    let above : b <ℤ (a +ℤ pos 1) = omega (arith, ints, e) in
    ap (λ l. Int a ∷ l) (sym (none_left (a +ℤ pos 1) b above))
next a b (suc n) e =
    let less : b -ℤ (a +ℤ pos 1) ≡ pos n = omega (arith, ints, e) in
    let below : (a +ℤ pos 1) ≤ℤ b = omega (arith, ints, e) in
    ap (integers_from a) (add-one (suc n))
    ∙ ap (λ l. Int a ∷ l) (ap (integers_from (a +ℤ pos 1)) (sym (add-one n)) ∙ ap (λ z. integers_from (a +ℤ pos 1) (unsigned_abs z + 1)) (sym less) ∙ sym (some_left (a +ℤ pos 1) b below))

pub one_left : (a b : ℤ) → a ≤ℤ b → integers_to a b ≡ Int a ∷ integers_to (a +ℤ pos 1) b
one_left a b h =
    some_left a b h ∙ next a b (unsigned_abs (b -ℤ a)) (natural (b -ℤ a) (omega (arith, ints, h)))

-- ---- a range that is gathered one by one: those before n were

abbrev pub IsAlong : ℤ → ℤ → ℤ → Gathered → Gathered → Type 0
IsAlong first last n g h = (done : List Value) × (done ++ integers_to n last ≡ integers_to first last) × HasMore done g h

pub at_first : (first last : ℤ) (g : Gathered) → IsAlong first last first g g
at_first first last g = ([], refl, λ (k : Kind) (all : List Value) (a : AreGathered k all g). subst (λ (l : List Value). AreGathered k l g) (sym (append-nil all)) a)

pub one_more : (first last n : ℤ) (g h f : Gathered) → n ≤ℤ last → IsAlong first last n g h → HasMore (Int n ∷ []) h f → IsAlong first last (n +ℤ pos 1) g f
one_more first last n g h f le a m = (
  a.0 ++ Int n ∷ [],
  append_assoc a.0 (Int n ∷ []) (integers_to (n +ℤ pos 1) last) ∙ ap (λ l. a.0 ++ l) (sym (one_left n last le)) ∙ a.1,
  λ (k : Kind) (all : List Value) (t : AreGathered k all g). subst (λ (l : List Value). AreGathered k l f) (append_assoc all a.0 (Int n ∷ [])) (m k (all ++ a.0) (a.2 k all t)),
)

pub read_yes : (a b : ℤ) → int_le a b ≡ true → a ≤ℤ b
read_yes a b h = grind (arith, ints)

pub read_no : (a b : ℤ) → int_le a b ≡ false → b <ℤ a
read_no a b h = grind (arith, ints)

-- the same where the numbers are told otherwise
pub one_more_at : (first last n m x : ℤ) (g h f : Gathered) → n ≤ℤ last → m ≡ n +ℤ pos 1 → IsAlong first last n g h → HasMore (Int x ∷ []) h f → x ≡ n → IsAlong first last m g f
one_more_at first last n m x g h f le e a t is =
    subst (λ (z : ℤ). IsAlong first last z g f) (sym e) (one_more first last n g h f le a (subst (λ (z : ℤ). HasMore (Int z ∷ []) h f) is t))

pub ends_at : (first last a b : ℤ) (g h : Gathered) → a ≡ first → b ≡ last → HasMore (integers_to a b) g h → HasMore (integers_to first last) g h
ends_at first last a b g h e f t =
    subst (λ (z : ℤ). HasMore (integers_to first z) g h) f (subst (λ (z : ℤ). HasMore (integers_to z b) g h) e t)

-- where there is no room for those that are left
pub none_needed : (first last n : ℤ) (g h : Gathered) → h.is_full ≡ true → IsAlong first last n g h → HasMore (integers_to first last) g h
none_needed first last n g h e a =
    λ (k : Kind) (all : List Value) (t : AreGathered k all g).
    subst (λ (l : List Value). AreGathered k l h)
    (append_assoc all a.0 (integers_to n last) ∙ ap (λ l. all ++ l) a.1)
    (passed h k (all ++ a.0) (integers_to n last) (a.2 k all t) e (all_valid n last))

-- where none is left
pub all_done : (first last n : ℤ) (g h : Gathered) → last <ℤ n → IsAlong first last n g h → HasMore (integers_to first last) g h
all_done first last n g h l a =
    let whole : a.0 ≡ integers_to first last = sym (append-nil a.0) ∙ ap (λ l. a.0 ++ l) (sym (none_left n last l)) ∙ a.1 in
    subst (λ (l : List Value). HasMore l g h) whole a.2
