-- JSON values (RFC 8259) as data: a file's value, and looking into it.
use Rattle.std.specs.Prelude.{ℕ, List, [], ◌∷◌, Bool, true, false, ◌&&◌, Option, None, option_and_then, unwrap_or, if◌then◌else◌}
use Rattle.std.specs.List.{list_any}
use Rattle.std.specs.Option.{option_map_or}
use Rattle.std.specs.Str.{is_utf8, bytes_eq}
use Rattle.serde_json.specs.Data.{Data, Items, no_items, item, Members, no_members, member}
use Rattle.serde_json.specs.Find.{get, as_str, as_number, as_u64, as_bool, as_array, as_object}
use Rattle.serde_json.specs.Read.{read}

-- the value of a file: its bytes are UTF-8, and its text is one value
abbrev pub json : List ℕ → Option Data
json bytes = if is_utf8 bytes then read bytes else None

-- the text at a key
abbrev pub text_at : List ℕ → Data → Option (List ℕ)
text_at key d = option_and_then as_str (get key d)

-- the whole number of 64 bits without a sign that a value is
abbrev pub as_count : Data → Option ℕ
as_count d = option_and_then as_u64 (as_number d)

abbrev pub count_under : List ℕ → Data → Option ℕ
count_under key d = option_and_then as_count (get key d)

-- the true or false at a key
abbrev pub flag_at : List ℕ → Data → Option Bool
flag_at key d = option_and_then as_bool (get key d)

-- the list at a key
abbrev pub items_at : List ℕ → Data → Option Items
items_at key d = option_and_then as_array (get key d)

-- the object at a key
abbrev pub members_at : List ℕ → Data → Option Members
members_at key d = option_and_then as_object (get key d)

-- the same of a value that is known to be of its form: where there is nothing at the key, the empty one
abbrev pub text_or : List ℕ → Data → List ℕ
text_or key d = unwrap_or (text_at key d) []

-- the text that a value is
abbrev pub text_of : Data → List ℕ
text_of d = unwrap_or (as_str d) []

abbrev pub items_or : List ℕ → Data → Items
items_or key d = unwrap_or (items_at key d) no_items

abbrev pub members_or : List ℕ → Data → Members
members_or key d = unwrap_or (members_at key d) no_members

-- what each item is read as
abbrev pub map_items : {Y : Type 0} → (Data → Y) → Items → List Y
map_items f no_items = []
map_items f (item d ds) = f d ∷ map_items f ds

-- the texts of the list at a key
abbrev pub texts_at : List ℕ → Data → List (List ℕ)
texts_at key d = map_items text_of (items_or key d)

abbrev pub keys_among : List (List ℕ) → Members → Bool
keys_among keys no_members = true
keys_among keys (member k d ms) = list_any (λ x. bytes_eq x k) keys && keys_among keys ms

-- an object with no keys but these
abbrev pub has_only : List (List ℕ) → Data → Bool
has_only keys d = option_map_or (keys_among keys) (as_object d) false
