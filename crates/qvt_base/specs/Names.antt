-- Names and file names.
use Rattle.std.specs.Prelude.{ℕ, Bool, false, ◌&&◌, ◌||◌, ◌==◌, not, nat_lt, nat_le, List, [], ◌∷◌, length}
use Rattle.std.specs.List.{list_all}
use Rattle.std.specs.Str.{chars}
use Rattle.unicode_ident.specs.Ident.{is_xid_start, is_xid_continue}

-- `_` or a character that may begin an identifier
abbrev pub is_name_start : ℕ → Bool
is_name_start c = is_xid_start c || (c == 95)

abbrev pub begins_name : List ℕ → Bool
begins_name [] = false
begins_name (c ∷ cs) = is_name_start c && list_all is_xid_continue cs

-- a name has 1 to 200 characters, the first one that begins a name, the others ones that may go on in an identifier
unfoldable pub is_name : List ℕ → Bool
is_name text = begins_name (chars text) && nat_le (length (chars text)) 200

-- a control character
abbrev pub is_control : ℕ → Bool
is_control c = nat_lt c 32 || (c == 127)

-- the name of a file has 1 to 200 characters, none of them a control character
unfoldable pub is_file : List ℕ → Bool
is_file text = nat_lt 0 (length (chars text)) && nat_le (length (chars text)) 200 && list_all (λ c. not (is_control c)) (chars text)
