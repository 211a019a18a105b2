-- The text of a plain value is UTF-8, and a plain value has no float.
use Rattle.std.proofs.Common.{◌≡◌, ℕ, pos, negsuc, Bool, true, false, List, [], ◌∷◌, refl, arith, IsUtf8}
use Rattle.std.proofs.lemmas.Str.{IsUtf8-append, IsUtf8-from_ascii, IsUtf8-nil}
use Rattle.std.proofs.lemmas.Fmt.{IsAscii-decimal, IsAscii-signed}
use Rattle.json.proofs.Printed.Utf8.{IsUtf8-quoted, IsUtf8-boolean, IsUtf8-are_ascii}
use Rattle.serde_json.specs.Data.{Num, unsigned, negative, float, Data, null, boolean, number, string, array, object, Items, no_items, item, Members, no_members, member}
use Rattle.serde_json.specs.Find.{is_float}
use Rattle.serde_json.specs.Written.{compact_text, items_text, members_text, number_text, comma_if, has_float, items_have_float, members_have_float}
use Rattle.qvt_json.specs.Plain.{IsInteger, IsPlain, ItemsPlain, MembersPlain}

comma_is_utf8 : (b : Bool) → IsUtf8 (comma_if b)
comma_is_utf8 true = IsUtf8-are_ascii (44 ∷ []) refl
comma_is_utf8 false = IsUtf8-nil

number_is_utf8 : (n : Num) → IsInteger n → IsUtf8 (number_text n)
number_is_utf8 (unsigned n) h = IsUtf8-from_ascii _ (IsAscii-decimal n h)
number_is_utf8 (negative (pos n)) h = absurd h
number_is_utf8 (negative (negsuc n)) h = IsUtf8-from_ascii _ (IsAscii-signed (negsuc n) (omega arith))
number_is_utf8 (float x) h = absurd h

after_sign : (c : ℕ) (text : List ℕ) → IsUtf8 (c ∷ []) → IsUtf8 text → IsUtf8 (c ∷ text)
after_sign c text a b = IsUtf8-append (c ∷ []) text a b

mutual
  pub IsUtf8-compact_text : (d : Data) → IsPlain d → IsUtf8 (compact_text d)
  IsUtf8-compact_text null h = IsUtf8-are_ascii _ refl
  IsUtf8-compact_text (boolean b) h = IsUtf8-boolean b
  IsUtf8-compact_text (number n) h = number_is_utf8 n h
  IsUtf8-compact_text (string s) h = IsUtf8-quoted s h
  IsUtf8-compact_text (array ds) h = after_sign 91 _ (IsUtf8-are_ascii (91 ∷ []) refl) (items_are_utf8 false ds h)
  IsUtf8-compact_text (object ms) h = after_sign 123 _ (IsUtf8-are_ascii (123 ∷ []) refl) (members_are_utf8 false ms h)

  items_are_utf8 : (b : Bool) (ds : Items) → ItemsPlain ds → IsUtf8 (items_text b ds)
  items_are_utf8 b no_items h = IsUtf8-are_ascii (93 ∷ []) refl
  items_are_utf8 b (item d ds) h = IsUtf8-append _ _ (comma_is_utf8 b) (IsUtf8-append _ _ (IsUtf8-compact_text d h.0) (items_are_utf8 true ds h.1))

  members_are_utf8 : (b : Bool) (ms : Members) → MembersPlain ms → IsUtf8 (members_text b ms)
  members_are_utf8 b no_members h = IsUtf8-are_ascii (125 ∷ []) refl
  members_are_utf8 b (member k d ms) h =
      IsUtf8-append _ _ (comma_is_utf8 b) (IsUtf8-append _ _ (IsUtf8-quoted k h.0)
      (after_sign 58 _ (IsUtf8-are_ascii (58 ∷ []) refl) (IsUtf8-append _ _ (IsUtf8-compact_text d h.1) (members_are_utf8 true ms h.3))))

is_whole : (n : Num) → IsInteger n → is_float n ≡ false
is_whole (unsigned n) h = refl
is_whole (negative z) h = refl
is_whole (float x) h = absurd h

mutual
  pub has_float-plain : (d : Data) → IsPlain d → has_float d ≡ false
  has_float-plain null h = refl
  has_float-plain (boolean b) h = refl
  has_float-plain (number n) h = is_whole n h
  has_float-plain (string s) h = refl
  has_float-plain (array ds) h = items_whole ds h
  has_float-plain (object ms) h = members_whole ms h

  items_whole : (ds : Items) → ItemsPlain ds → items_have_float ds ≡ false
  items_whole no_items h = refl
  items_whole (item d ds) h = rw (has_float-plain d h.0, items_whole ds h.1)

  members_whole : (ms : Members) → MembersPlain ms → members_have_float ms ≡ false
  members_whole no_members h = refl
  members_whole (member k d ms) h = rw (has_float-plain d h.1, members_whole ms h.3)
