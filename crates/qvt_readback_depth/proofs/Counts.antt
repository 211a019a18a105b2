-- How many items are open at once, as a count and as a bound.
use Rattle.std.proofs.Common.{◌≡◌, ℕ, ◌≤◌, List, [], ◌∷◌, length, Bool, true, false, if◌then◌else◌, refl, arith, nat_le, leb-true, leb-false}
use Rattle.qvt_language.specs.Tokens.{Tok}
use Rattle.qvt_parser_tokens.specs.declared.depth.Open.{Open}
use Rattle.qvt_parser_tokens.specs.Depth.{after, begins_statement}
use Rattle.qvt_readback_depth.specs.Most.{greater, most_from}
use Rattle.qvt_readback_depth.proofs.Runs.{Below}
use Rattle.qvt_readback_depth.proofs.Pieces.{tc}

-- the greater of two
pub if_le : (x : Bool) (a b n : ℕ) → a ≤ n → b ≤ n → (if x then b else a) ≤ n
if_le true a b n h k = k
if_le false a b n h k = h

first_le : (x : Bool) (a b : ℕ) → nat_le a b ≡ x → a ≤ (if x then b else a)
first_le true a b e = leb-true a b e
first_le false a b e = omega arith

second_le : (x : Bool) (a b : ℕ) → nat_le a b ≡ x → b ≤ (if x then b else a)
second_le true a b e = omega arith
second_le false a b e = omega (arith, leb-false a b e)

pub left_most : (a b n : ℕ) → greater a b ≤ n → a ≤ n
left_most a b n h = omega (arith, h, first_le (nat_le a b) a b refl)

pub right_most : (a b n : ℕ) → greater a b ≤ n → b ≤ n
right_most a b n h = omega (arith, h, second_le (nat_le a b) a b refl)

-- how many are open at once
pub most_below : (n : ℕ) (f : Bool) (s : List Open) (ts : List Tok) → Below n f s (tc ts) → most_from f s ts ≤ n
most_below n f s [] l = omega arith
most_below n f s (t ∷ ts) l =
    if_le (nat_le (length (after f s t.class)) (most_from (begins_statement t.class) (after f s t.class) ts)) (length (after f s t.class)) (most_from (begins_statement t.class) (after f s t.class) ts) n (at_first ts l.1)
    (most_below n (begins_statement t.class) (after f s t.class) ts l.1) where
      at_first : (us : List Tok) → Below n (begins_statement t.class) (after f s t.class) (tc us) → length (after f s t.class) ≤ n
      at_first [] k = k
      at_first (u ∷ us) k = k.0

pub below_most : (n : ℕ) (f : Bool) (s : List Open) (ts : List Tok) → length s ≤ n → most_from f s ts ≤ n → Below n f s (tc ts)
below_most n f s [] h k = h
below_most n f s (t ∷ ts) h k =
    let a = length (after f s t.class) in
    let b = most_from (begins_statement t.class) (after f s t.class) ts in
    (h, below_most n (begins_statement t.class) (after f s t.class) ts (left_most a b n k) (right_most a b n k))
