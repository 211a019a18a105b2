-- Values that a file can hold as they are: whole numbers of 64 bits, texts of UTF-8, and keys of UTF-8 that ascend.
use Rattle.std.specs.Prelude.{◌≡◌, ◌≤◌, ◌<◌, ◌^◌, ◌++◌, ℕ, pos, negsuc, List, [], ◌∷◌, Some, ⊤}
use Rattle.std.specs.Str.{IsUtf8}
use Rattle.std.specs.Ordering.{nat_cmp}
use Rattle.std.specs.Cmp.Lexicographic.{slice_cmp}
use Rattle.std.specs.declared.cmp.Ordering.TheVariants.{Greater}
use Rattle.serde_json.specs.Data.{Num, unsigned, negative, float, Data, null, boolean, number, string, array, object, Items, no_items, item, Members, no_members, member, depth}
use Rattle.serde_json.specs.Read.{max_depth}
use Rattle.serde_json.specs.Written.{compact_text}
use Rattle.qvt_json.specs.Json.{json}

-- a whole number that fits 64 bits
abbrev pub IsInteger : Num → Type 0
IsInteger (unsigned n) = n < 2 ^ 64
IsInteger (negative (pos n)) = ⊥
IsInteger (negative (negsuc n)) = n < 2 ^ 63
IsInteger (float x) = ⊥

-- each key comes after this one in byte order
abbrev pub KeysAfter : List ℕ → Members → Type 0
KeysAfter k no_members = ⊤
KeysAfter k (member l d ms) = (slice_cmp nat_cmp l k ≡ Greater) × KeysAfter k ms

abbrev mutual
  pub IsPlain : Data → Type 0
  IsPlain null = ⊤
  IsPlain (boolean b) = ⊤
  IsPlain (number n) = IsInteger n
  IsPlain (string s) = IsUtf8 s
  IsPlain (array ds) = ItemsPlain ds
  IsPlain (object ms) = MembersPlain ms

  pub ItemsPlain : Items → Type 0
  ItemsPlain no_items = ⊤
  ItemsPlain (item d ds) = IsPlain d × ItemsPlain ds

  pub MembersPlain : Members → Type 0
  MembersPlain no_members = ⊤
  MembersPlain (member k d ms) = IsUtf8 k × IsPlain d × KeysAfter k ms × MembersPlain ms

-- a written file: the compact text of its value, and a line feed
unfoldable pub file_text : Data → List ℕ
file_text d = compact_text d ++ 10 ∷ []

-- what is written is read as the same value
abbrev pub WrittenIsRead : Type 0
WrittenIsRead = (d : Data) → IsPlain d → depth d ≤ max_depth → json (file_text d) ≡ Some d
