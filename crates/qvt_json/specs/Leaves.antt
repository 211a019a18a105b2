-- The forms of single values.
use Rattle.std.specs.Prelude.{ℕ, List, Bool, false, not, ◌&&◌, ◌==◌, nat_le, is_some}
use Rattle.std.specs.List.{list_any}
use Rattle.std.specs.Option.{option_map_or}
use Rattle.qvt_base.specs.Names.{is_file}
use Rattle.serde_json.specs.Data.{Data}
use Rattle.serde_json.specs.Find.{as_str, as_bool, as_object}
use Rattle.qvt_json.specs.Json.{as_count}

-- the id of an object: of the form of a file's name, without a colon
unfoldable pub is_id : List ℕ → Bool
is_id s = is_file s && not (list_any (λ x. x == 58) s)

abbrev pub is_json_text : Data → Bool
is_json_text d = is_some (as_str d)

-- a text that passes a test
abbrev pub is_text_of : (List ℕ → Bool) → Data → Bool
is_text_of is d = option_map_or is (as_str d) false

abbrev pub is_flag : Data → Bool
is_flag d = is_some (as_bool d)

abbrev pub is_json_object : Data → Bool
is_json_object d = is_some (as_object d)

-- a whole number from low to high
abbrev pub is_count : ℕ → ℕ → Data → Bool
is_count low high d = option_map_or (λ n. nat_le low n && nat_le n high) (as_count d) false
