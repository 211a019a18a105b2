-- The classes of characters. A character is its code point.
use Rattle.std.specs.Prelude.{ℕ, Bool, ◌||◌, ◌&&◌, ◌==◌, ◌-◌, not, nat_le, if◌then◌else◌}
use Rattle.unicode_ident.specs.Ident.{is_xid_start, is_xid_continue}

-- space, tab, carriage return, line feed
abbrev pub is_blank : ℕ → Bool
is_blank c = (c == 32) || (c == 9) || (c == 13) || (c == 10)

-- what begins a name: `_`, or a character with the property XID_Start
abbrev pub is_start : ℕ → Bool
is_start c = (c == 95) || is_xid_start c

-- what continues a name
abbrev pub is_continue : ℕ → Bool
is_continue c = is_xid_continue c

abbrev pub is_digit : ℕ → Bool
is_digit c = nat_le 48 c && nat_le c 57

abbrev pub is_quote : ℕ → Bool
is_quote c = (c == 39) || (c == 34)

-- what stands in a line, that is no line feed
abbrev pub is_in_line : ℕ → Bool
is_in_line c = not (c == 10)

abbrev pub is_hex : ℕ → Bool
is_hex c = (nat_le 48 c && nat_le c 57) || (nat_le 65 c && nat_le c 70) || (nat_le 97 c && nat_le c 102)

abbrev pub hex_value : ℕ → ℕ
hex_value c = if nat_le c 57 then c - 48 else if nat_le c 70 then c - 55 else c - 87

-- a comment to the line's end opens: `--` or `//`
abbrev pub is_line_comment : ℕ → ℕ → Bool
is_line_comment c d = (c == 45 && d == 45) || (c == 47 && d == 47)

-- `/*`
abbrev pub is_block_comment : ℕ → ℕ → Bool
is_block_comment c d = c == 47 && d == 42
