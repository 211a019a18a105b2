-- How many of some sets each number is in, by the digits of the counts to the base of two.
use Rattle.std.specs.Prelude.{ℕ, ◌+◌, ◌*◌, ◌/◌, ◌%◌, ◌==◌, Bool, true, false, not, List, [], ◌∷◌, if◌then◌else◌, slice_index_or}
use Rattle.qvt_metamodel.specs.Kept.{is_bit}
use Rattle.qvt_metamodel.specs.declared.row.Row.{Row}
use Rattle.qvt_counts.specs.declared.counter.Counter.{Counter}

-- 1 where it is so
unfoldable pub one : Bool → ℕ
one true = 1
one false = 0

-- the number with these digits, the lowest first
abbrev pub value : List Bool → ℕ
value [] = 0
value (b ∷ bs) = one b + 2 * value bs

abbrev pub digits : Counter → ℕ → List Bool
digits c k = is_bit c.ones k ∷ is_bit c.twos k ∷ is_bit c.fours k ∷ is_bit c.eights k ∷ is_bit c.sixteens k ∷ is_bit c.thirty_twos k ∷ is_bit c.sixty_fours k ∷ []

-- the count at a bit
unfoldable pub counted : Counter → ℕ → ℕ
counted c k = value (digits c k)

abbrev pub no_counter : Counter
no_counter = record { ones = 0; twos = 0; fours = 0; eights = 0; sixteens = 0; thirty_twos = 0; sixty_fours = 0 }

-- the last digit of a number
abbrev pub is_digit : Bool → ℕ → Bool
is_digit b n = if n % 2 == 1 then b else not b

-- the count of a number, in a list with a counter for each 64 of them
abbrev pub count_at : List Counter → ℕ → ℕ
count_at cs d = counted (slice_index_or cs (d / 64) no_counter) (d % 64)

-- the set with these words
abbrev pub bits : List ℕ → Row
bits ws = record { start = 0; skipped = 0; words = ws }
