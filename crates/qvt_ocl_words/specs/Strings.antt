-- Operations on Strings (OCL 2.4, 11.5.3). A String is a list of bytes of UTF-8; sizes and indices count characters, from 1.
-- Letters are changed that are ASCII alone: each of these is one byte, which no other character has in it.
use Rattle.std.specs.Prelude.{ℕ, suc, ◌+◌, ◌-◌, ◌*◌, ◌==◌, Bool, not, ◌&&◌, nat_lt, eqb, ℤ, pos, negsuc, neg_ℤ, int_le, List, [], ◌∷◌, ◌++◌, length, take, drop, map, slice_index, slice_range, if◌then◌else◌, Option, Some, None, encode_utf8}
use Rattle.std.specs.Option.{option_map}
use Rattle.std.specs.List.{starts_with, ends_with}
use Rattle.std.specs.Char.{to_ascii_uppercase, to_ascii_lowercase}
use Rattle.std.specs.Str.{chars, all_ascii_digits, encode_utf8_all}
use Rattle.std.specs.Ordering.{is_lt}
use Rattle.qvt_base.specs.declared.numbers.Place.{Place}
use Rattle.qvt_value.specs.declared.value.Value.{Value, Bool as Truth, Int, Str, Invalid}
use Rattle.qvt_value.specs.declared.value.Value.TheViews.{Coll}
use Rattle.qvt_value.specs.declared.value.Kind.TheVariants.{Sequence}
use Rattle.qvt_value.specs.declared.value.Reason.TheVariants.{BadIndex, BadNumber}
use Rattle.qvt_value.specs.Order.{text_order}
use Rattle.qvt_ocl_words.specs.declared.op.Op.{Op}
use Rattle.qvt_ocl_words.specs.declared.op.Op.TheVariants.{Plus, Less, LessEqual, Greater, GreaterEqual, Concat, Size, Substring, At, Characters, IndexOf, StartsWith, EndsWith, ToUpper, ToLower, FirstToUpper, FirstToLower, ToInteger}
use Rattle.qvt_ocl_words.specs.Integers.{fits_64, whole}

-- 1 <= l <= u <= n
abbrev pub is_span : ℤ → ℤ → ℕ → Bool
is_span l u n = int_le (pos 1) l && (int_le l u && int_le u (pos n))

-- the number, or 0 below it
abbrev pub natural : ℤ → ℕ
natural (pos n) = n
natural (negsuc n) = 0

-- the characters from the l-th to the u-th
abbrev pub substring : Place → List ℕ → ℤ → ℤ → Value
substring at s l u =
    if is_span l u (length (chars s)) then Str (encode_utf8_all (slice_range (chars s) (natural l - 1) (natural u))) else Invalid BadIndex at

-- the first place at which the bytes stand, if there is one
abbrev pub first_at : List ℕ → List ℕ → Option ℕ
first_at t [] = if starts_with eqb [] t then Some 0 else None
first_at t (b ∷ bs) = if starts_with eqb (b ∷ bs) t then Some 0 else option_map suc (first_at t bs)

-- one more than the characters before that place, or 0 where there is none
abbrev pub after_characters : List ℕ → Option ℕ → ℕ
after_characters s None = 0
after_characters s (Some i) = length (chars (take i s)) + 1

-- the index of the character at which t first stands in s, 0 if nowhere; nothing stands in the empty text
abbrev pub index_in : List ℕ → List ℕ → ℕ
index_in t [] = 0
index_in t (b ∷ bs) = after_characters (b ∷ bs) (first_at t (b ∷ bs))

-- f of the first character, and the others
abbrev pub first_by : (ℕ → ℕ) → List ℕ → List ℕ
first_by f [] = []
first_by f (c ∷ cs) = f c ∷ cs

-- the number that digits write, after those of value n
abbrev pub number_after : ℕ → List ℕ → ℕ
number_after n [] = n
number_after n (c ∷ cs) = number_after (10 * n + (c - 48)) cs

-- digits, at least one
abbrev pub is_number : List ℕ → Bool
is_number s = nat_lt 0 (length s) && all_ascii_digits s

abbrev pub if_whole : Place → Bool → ℤ → Value
if_whole at b z = if b && fits_64 z then Int z else Invalid BadNumber at

-- the Integer that the text writes: digits, with or without a `-` (45) before them
abbrev pub integer_in : Place → List ℕ → Value
integer_in at s =
    if slice_index s 0 == 45 then if_whole at (is_number (drop 1 s)) (neg_ℤ (pos (number_after 0 (drop 1 s))))
    else if_whole at (is_number s) (pos (number_after 0 s))

-- a String without arguments
unfoldable pub of_string : Op → Place → List ℕ → Option Value
of_string Size at s = Some (whole at (pos (length (chars s))))
of_string Characters at s = Some (Coll Sequence (map (λ c. Str (encode_utf8 c)) (chars s)))
of_string ToUpper at s = Some (Str (map to_ascii_uppercase s))
of_string ToLower at s = Some (Str (map to_ascii_lowercase s))
of_string FirstToUpper at s = Some (Str (encode_utf8_all (first_by to_ascii_uppercase (chars s))))
of_string FirstToLower at s = Some (Str (encode_utf8_all (first_by to_ascii_lowercase (chars s))))
of_string ToInteger at s = Some (integer_in at s)
of_string op at s = None

-- a String with an Integer
unfoldable pub of_string_at : Op → Place → List ℕ → ℤ → Option Value
of_string_at At at s i = Some (substring at s i i)
of_string_at op at s i = None

-- a String with two Integers
unfoldable pub of_string_span : Op → Place → List ℕ → ℤ → ℤ → Option Value
of_string_span Substring at s l u = Some (substring at s l u)
of_string_span op at s l u = None

-- a String with a String
unfoldable pub of_strings : Op → Place → List ℕ → List ℕ → Option Value
of_strings Plus at s t = Some (Str (s ++ t))
of_strings Concat at s t = Some (Str (s ++ t))
of_strings IndexOf at s t = Some (whole at (pos (index_in t s)))
of_strings StartsWith at s t = Some (Truth (starts_with eqb s t))
of_strings EndsWith at s t = Some (Truth (ends_with eqb s t))
of_strings Less at s t = Some (Truth (is_lt (text_order s t)))
of_strings LessEqual at s t = Some (Truth (not (is_lt (text_order t s))))
of_strings Greater at s t = Some (Truth (is_lt (text_order t s)))
of_strings GreaterEqual at s t = Some (Truth (not (is_lt (text_order s t))))
of_strings op at s t = None
